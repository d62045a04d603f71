-- Which variables the literals of a number name at most, and how many literals there are. Assumes nothing.
use mathlib.Core.Path.{◌≡◌, refl}
use mathlib.Core.Bool.{Bool, true, false}
use mathlib.Core.List.{List, [], ◌∷◌, ◌++◌, map}
use Prim.Native.Nat.{ℕ, zero, suc, ◌-◌, ◌≤◌, ◌<◌, max}
use native.Mathlib.Omega.{arith}
use lib.ListN.{length, replicate, length-append, length-map}
use lib.IntN.{ℤ}
use Rattle.whole.specs.Bits.{bits_of, fewest, last_of, extended}
use Rattle.whole.proofs.Bits.{bits_of_length}
use Rattle.whole.proofs.Extended.{extended-length}
use Rattle.circuit.specs.Literals.{Lit, plus, minus, neg, known}
use Rattle.circuit.specs.Numbers.{constant}
use Rattle.circuit.proofs.Wellformed.{var, Names}

-- every literal of the list is of one of so many first variables
abbrev pub bound : List Lit → ℕ
bound [] = 0
bound (l ∷ ls) = max (suc (var l)) (bound ls)

pub var_neg : (l : Lit) → var (neg l) ≡ var l
var_neg (plus i) = refl
var_neg (minus i) = refl

bound_neg : (ls : List Lit) → bound (map neg ls) ≡ bound ls
bound_neg [] = refl
bound_neg (l ∷ ls) = rw (var_neg l, bound_neg ls)

bound_append : (ks ls : List Lit) → bound (ks ++ ls) ≡ max (bound ks) (bound ls)
bound_append [] ls = omega arith
bound_append (k ∷ ks) ls = omega (arith, bound_append ks ls)

pub bound_snoc : (ls : List Lit) (l : Lit) → bound (ls ++ l ∷ []) ≡ max (bound ls) (suc (var l))
bound_snoc ls l = omega (arith, bound_append ls (l ∷ []))

bound_replicate : (k : ℕ) (l : Lit) → bound (replicate k l) ≤ suc (var l)
bound_replicate zero l = omega arith
bound_replicate (suc k) l = omega (arith, bound_replicate k l)

bound_last : (l : Lit) (ls : List Lit) → var (last_of l ls) < bound (l ∷ ls)
bound_last l [] = omega arith
bound_last l (k ∷ ls) = omega (arith, bound_last k ls)

bound_extended : (w : ℕ) (ls : List Lit) → bound (extended w ls) ≤ bound ls
bound_extended w [] = omega arith
bound_extended w (l ∷ ls) =
    let k : ℕ = w - length (l ∷ ls) in
    omega (arith, bound_append ls (replicate k (last_of l ls)), bound_replicate k (last_of l ls), bound_last l ls)

bound_known : (bs : List Bool) → bound (map known bs) ≤ 1
bound_known [] = omega arith
bound_known (true ∷ bs) = omega (arith, bound_known bs)
bound_known (false ∷ bs) = omega (arith, bound_known bs)

bound_constant : (z : ℤ) → bound (constant z) ≤ 1
bound_constant z = bound_known (bits_of (fewest z) z)

-- ---- the literals of a number: w of them, of the first n variables
pub record Lits (n w : ℕ) (ls : List Lit) : Type 0 where
  pub low : bound ls ≤ n
  pub size : length ls ≡ w

pub lits_up : {n m w : ℕ} {ls : List Lit} → n ≤ m → Lits n w ls → Lits m w ls
lits_up h a = omega arith

pub lits_neg : {n w : ℕ} {ls : List Lit} → Lits n w ls → Lits n w (map neg ls)
lits_neg {ls = ls} a = omega (arith, bound_neg ls, length-map ls neg)

pub lits_snoc : {n w : ℕ} {ls : List Lit} → Lits n w ls → (l : Lit) → Names n l → Lits n (suc w) (ls ++ l ∷ [])
lits_snoc {ls = ls} a l h = omega (arith, bound_snoc ls l, length-append ls (l ∷ []))

pub lits_extended : {n v w : ℕ} {ls : List Lit} → 0 < v → v ≤ w → Lits n v ls → Lits n w (extended w ls)
lits_extended {w = w} {ls = ls} h k a = omega (arith, bound_extended w ls, extended-length w ls (omega arith) (omega arith))

pub constant_lits : {n : ℕ} (z : ℤ) → 0 < n → Lits n (fewest z) (constant z)
constant_lits z h = omega (arith, bound_constant z, length-map (bits_of (fewest z) z) known, bits_of_length (fewest z) z)
