-- What the gates of a choice hold, and of an unknown: the bits of the number. Assumes nothing.
use mathlib.Core.Path.{◌≡◌, refl, ap}
use mathlib.Core.Bool.{Bool, true, false}
use mathlib.Core.List.{List, [], ◌∷◌, ◌++◌}
use Prim.Native.Nat.{ℕ, zero, suc}
use native.Mathlib.Omega.{arith}
use lib.ListN.{length}
use lib.IntN.{ℤ}
use Rattle.whole.specs.Tests.{if◌then◌otherwise◌}
use Rattle.whole.specs.Bits.{half, bits_of}
use Rattle.circuit.specs.Literals.{Lit, Assignment, lit_true}
use Rattle.circuit.specs.Numbers.{larger, unknown, muxes, choice}
use Rattle.circuit.proofs.Reading.{Reads}
use Rattle.trace.proofs.Tracing.{Tracing, trace_ret, trace_new, trace_then}
use Rattle.trace.proofs.Places.{Places, places_read}

pub unknown_traced : (s : Assignment) (l : List Bool) (p : ℕ) (v : ℤ) → Tracing s (bits_of p v ++ l) (unknown p) l (bits_of p v) (λ r. length r ≡ p)
unknown_traced s l zero v = trace_ret refl
unknown_traced s l (suc p) v = trace_new refl (λ x ex. trace_then (unknown_traced s l p (half v)) (λ r e. trace_ret (ap suc e)))

module _ (s : Assignment) (l : List Bool) (i : Lit) where
  muxes_traced : (w : ℕ) (xs ys : List Lit) (c : Bool) (x y : ℤ) → lit_true s i ≡ c → Places s w xs x → Places s w ys y
      → Tracing s l (muxes i xs ys) l (bits_of w (if c then x otherwise y)) (λ r. length r ≡ w)
  muxes_traced zero [] ys c x y e a b = trace_ret refl
  muxes_traced zero (j ∷ xs) ys c x y e a b = absurd a
  muxes_traced (suc w) [] ys c x y e a b = absurd a
  muxes_traced (suc w) (j ∷ xs) [] c x y e a b = absurd b
  muxes_traced (suc w) (j ∷ xs) (k ∷ ys) true x y e a b =
      trace_new (rw (e, a.0)) (λ g eg. trace_then (muxes_traced w xs ys true (half x) (half y) e a.1 b.1) (λ r m. trace_ret (ap suc m)))
  muxes_traced (suc w) (j ∷ xs) (k ∷ ys) false x y e a b =
      trace_new (rw (e, b.0)) (λ g eg. trace_then (muxes_traced w xs ys false (half x) (half y) e a.1 b.1) (λ r m. trace_ret (ap suc m)))

  -- two numbers, in as many places as the wider has
  pub choice_traced : {n : ℕ} {xs ys : List Lit} {x y : ℤ} (c : Bool) → lit_true s i ≡ c → Reads s xs x → Reads s ys y → larger xs ys ≡ n
      → Tracing s l (choice i xs ys) l (bits_of n (if c then x otherwise y)) (λ r. length r ≡ n)
  choice_traced {xs = xs} {ys = ys} {x = x} {y = y} c ec a b e =
      rw (← e) (muxes_traced (larger xs ys) _ _ c x y ec (places_read s (larger xs ys) a (omega arith)) (places_read s (larger xs ys) b (omega arith)))
