-- What the gates of greater and of equal hold. Assumes nothing.
use mathlib.Core.Path.{◌≡◌, ◌∙◌, ap, ap₂}
use mathlib.Core.Bool.{Bool, true, false, not, ◌&&◌}
use mathlib.Core.List.{List, [], ◌∷◌}
use Prim.Native.Nat.{ℕ, zero, suc}
use native.Mathlib.Omega.{arith}
use lib.IntN.{ℤ}
use Rattle.whole.specs.Bits.{odd, half, extended}
use Rattle.circuit.specs.Literals.{Lit, truth, falsity, Assignment, lit_true}
use Rattle.circuit.specs.Gates.{xor_of, mux_of}
use Rattle.circuit.specs.Numbers.{larger, greater_from, greater, equal_from, equal}
use Rattle.circuit.proofs.Gates.{lit_true-neg}
use Rattle.circuit.proofs.Reading.{Reads}
use Rattle.trace.specs.Traces.{exceeding, equalling}
use Rattle.trace.proofs.Tracing.{Tracing, trace_ret, trace_new}
use Rattle.trace.proofs.Places.{Places, places_read}

module _ (s : Assignment) (l : List Bool) where
  greater_from_traced : (w : ℕ) (g : Lit) (xs ys : List Lit) (c : Bool) (x y : ℤ) → lit_true s g ≡ c → Places s w xs x → Places s w ys y
      → Tracing s l (greater_from g xs ys) l (exceeding c w x y) (λ r. Unit {0})
  greater_from_traced zero g [] ys c x y e a b = trace_ret tt
  greater_from_traced zero g (i ∷ xs) ys c x y e a b = absurd a
  greater_from_traced (suc w) g [] ys c x y e a b = absurd a
  greater_from_traced (suc w) g (i ∷ xs) [] c x y e a b = absurd b
  greater_from_traced (suc zero) g (i ∷ []) (j ∷ ys) c x y e a b =
      trace_new (ap₂ xor_of a.0 b.0) (λ d ed. trace_new (rw (ed, b.0, e)) (λ h eh. trace_ret tt))
  greater_from_traced (suc zero) g (i ∷ i₁ ∷ xs) (j ∷ ys) c x y e a b = absurd a.1
  greater_from_traced (suc (suc w)) g (i ∷ []) (j ∷ ys) c x y e a b = absurd a.1
  greater_from_traced (suc (suc w)) g (i ∷ i₁ ∷ xs) (j ∷ ys) c x y e a b =
      trace_new (ap₂ xor_of a.0 b.0) (λ d ed. trace_new (rw (ed, a.0, e)) (λ h eh.
      greater_from_traced (suc w) h (i₁ ∷ xs) ys (mux_of (xor_of (odd x) (odd y)) (odd x) c) (half x) (half y) eh a.1 b.1))

  equal_from_traced : (w : ℕ) (g : Lit) (xs ys : List Lit) (c : Bool) (x y : ℤ) → lit_true s g ≡ c → Places s w xs x → Places s w ys y
      → Tracing s l (equal_from g xs ys) l (equalling c w x y) (λ r. Unit {0})
  equal_from_traced zero g [] ys c x y e a b = trace_ret tt
  equal_from_traced zero g (i ∷ xs) ys c x y e a b = absurd a
  equal_from_traced (suc w) g [] ys c x y e a b = absurd a
  equal_from_traced (suc w) g (i ∷ xs) [] c x y e a b = absurd b
  equal_from_traced (suc w) g (i ∷ xs) (j ∷ ys) c x y e a b =
      trace_new (ap₂ xor_of a.0 b.0) (λ d ed. trace_new (ap₂ ◌&&◌ e (lit_true-neg s d ∙ ap not ed)) (λ h eh.
      equal_from_traced w h xs ys (c && not (xor_of (odd x) (odd y))) (half x) (half y) eh a.1 b.1))

  -- two numbers, in as many places as the wider has
  module _ (et : lit_true s truth ≡ true) {n : ℕ} {xs ys : List Lit} {x y : ℤ} (a : Reads s xs x) (b : Reads s ys y) (e : larger xs ys ≡ n) where
    left : Places s n (extended (larger xs ys) xs) x
    left = rw (← e) (places_read s (larger xs ys) a (omega arith))

    right : Places s n (extended (larger xs ys) ys) y
    right = rw (← e) (places_read s (larger xs ys) b (omega arith))

    pub greater_traced : Tracing s l (greater xs ys) l (exceeding false n x y) (λ r. Unit {0})
    greater_traced = greater_from_traced n falsity _ _ false x y (ap not et) left right

    pub equal_traced : Tracing s l (equal xs ys) l (equalling true n x y) (λ r. Unit {0})
    equal_traced = equal_from_traced n truth _ _ true x y et left right
