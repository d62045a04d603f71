-- What the gates of an adder hold, and that its result holds the bits of the sum with the carry; so of sums and differences. Assumes nothing.
use mathlib.Core.Path.{◌≡◌, sym, ◌∙◌, ap, ap₂, subst}
use mathlib.Core.Bool.{Bool, true, false, not}
use mathlib.Core.List.{List, [], ◌∷◌}
use Prim.Native.Nat.{ℕ, zero, suc, ◌+◌}
use native.Mathlib.Omega.{arith}
use native.Mathlib.Numerals.{add-one}
use lib.ListN.{length}
use lib.IntN.{ℤ, pos, ◌+ℤ◌}
use Rattle.whole.specs.Bits.{bit, odd, half, extended}
use Rattle.circuit.specs.Literals.{Lit, truth, falsity, Assignment, lit_true}
use Rattle.circuit.specs.Gates.{xor_of, maj_of}
use Rattle.circuit.specs.Numbers.{larger, adder, sum, difference}
use Rattle.circuit.proofs.Reading.{Reads}
use Rattle.trace.specs.Traces.{adding, turned}
use Rattle.trace.proofs.Halves.{sum_halves}
use Rattle.trace.proofs.Tracing.{Tracing, trace_ret, trace_new, trace_then, trace_map}
use Rattle.trace.proofs.Places.{Places, places-length, places-neg, places_read}

pub adder_traced : (s : Assignment) (l : List Bool) (w : ℕ) (carry : Lit) (xs ys : List Lit) (c : Bool) (x y : ℤ)
    → lit_true s carry ≡ c → Places s w xs x → Places s w ys y
    → Tracing s l (adder carry xs ys) l (adding c w x y) (λ r. Places s w r (x +ℤ y +ℤ pos (bit c)))
adder_traced s l zero carry [] ys c x y ec a b = trace_ret tt
adder_traced s l zero carry (i ∷ xs) ys c x y ec a b = absurd a
adder_traced s l (suc w) carry [] ys c x y ec a b = absurd a
adder_traced s l (suc w) carry (i ∷ xs) [] c x y ec a b = absurd b
adder_traced s l (suc w) carry (i ∷ xs) (j ∷ ys) c x y ec a b =
    let (first, rest) = sum_halves x y c in
    trace_new (ap₂ xor_of a.0 b.0) (λ t et. trace_new (ap₂ xor_of et ec) (λ u eu. trace_new (rw (a.0, b.0, ec)) (λ d ed.
    trace_then (adder_traced s l w d xs ys (maj_of (odd x) (odd y) c) (half x) (half y) ed a.1 b.1)
    (λ r h. trace_ret (eu ∙ sym first, subst (Places s w r) (sym rest) h)))))

-- two numbers, in one place more than the wider has
module _ (s : Assignment) (l : List Bool) (et : lit_true s truth ≡ true) {n : ℕ} {xs ys : List Lit} {x y : ℤ} (a : Reads s xs x) (b : Reads s ys y) (e : larger xs ys ≡ n) where
  left : Places s (n + 1) (extended (suc (larger xs ys)) xs) x
  left = rw (← e, add-one (larger xs ys)) (places_read s (suc (larger xs ys)) a (omega arith))

  right : Places s (n + 1) (extended (suc (larger xs ys)) ys) y
  right = rw (← e, add-one (larger xs ys)) (places_read s (suc (larger xs ys)) b (omega arith))

  pub sum_traced : Tracing s l (sum xs ys) l (adding false (n + 1) x y) (λ r. length r ≡ n + 1)
  sum_traced = trace_map (adder_traced s l (n + 1) falsity _ _ false x y (ap not et) left right) (λ r h. places-length s (n + 1) r _ h)

  pub difference_traced : Tracing s l (difference xs ys) l (adding true (n + 1) x (turned y)) (λ r. length r ≡ n + 1)
  difference_traced =
      trace_map (adder_traced s l (n + 1) truth _ _ true x (turned y) et left (places-neg s (n + 1) _ y right)) (λ r h. places-length s (n + 1) r _ h)
