-- One turn of a comparison: a bit, then the comparison of the places behind it. Assumes nothing.
use mathlib.Core.Path.{◌≡◌, refl}
use mathlib.Core.List.{List, [], ◌∷◌}
use mathlib.Core.Logic.{◌⊎◌, inl, inr}
use Prim.Native.Nat.{ℕ, ◌+◌, ◌≤◌, ◌<◌}
use native.Mathlib.Omega.{arith}
use lib.IntN.{ℤ}
use lib.ListN.{length}
use Rattle.circuit.specs.Literals.{Lit}
use Rattle.circuit.specs.Circuits.{Circuit, ret, ◌>>=◌}
use Rattle.circuit.specs.Numbers.{greater_from, equal_from}
use Rattle.frame.specs.declared.Cursor.{Cursor}
use Rattle.frame.specs.declared.Made.{Made}
use Rattle.frame.specs.Written.{RoomFor, Makes}
use Rattle.frame.proofs.Loops.{Left, left_room, left_step}
use Rattle.compare.specs.Comparing.{order_bit, match_bit}

-- what stands in a's place in the second gate of greater: at the sign, where nothing is behind a, it is b
abbrev pub second : (a b : Lit) → List Lit → Lit
second a b [] = b
second a b (x ∷ xs) = a

pub second_is : (a b p : Lit) (xs : List Lit) (i n : ℕ) → i + length (a ∷ xs) ≡ n → ((i + 1 < n) × (p ≡ a)) ⊎ ((n ≤ i + 1) × (p ≡ b)) → p ≡ second a b xs
second_is a b p [] i n e (inl h) = absurd (omega arith)
second_is a b p [] i n e (inr h) = h.1
second_is a b p (x ∷ xs) i n e (inl h) = h.1
second_is a b p (x ∷ xs) i n e (inr h) = absurd (omega arith)

order_at : (g a b : Lit) (xs ys : List Lit) → greater_from g (a ∷ xs) (b ∷ ys) ≡ (order_bit a b (second a b xs) g >>= λ g'. greater_from g' xs ys)
order_at g a b [] ys = refl
order_at g a b (x ∷ xs) ys = refl

module _ {from : Cursor} {all : Circuit Lit} {before l : List ℤ} {at : Cursor} (a b : Lit) (xs ys : List Lit) where
  module _ (e : Lit) (h : Left from all before l at (equal_from e (a ∷ xs) (b ∷ ys)) (λ r. r)) where
    pub match_room : RoomFor at (match_bit a b e) l
    match_room = left_room (match_bit a b e) (λ e'. equal_from e' xs ys) h

    pub match_turn : {l' : List ℤ} {m : Made Lit} → Makes at (match_bit a b e) l l' m → Left from all before l' m.to (equal_from m.value xs ys) (λ r. r)
    match_turn w = left_step (match_bit a b e) (λ e'. equal_from e' xs ys) h w

  module _ (p g : Lit) (h : Left from all before l at (greater_from g (a ∷ xs) (b ∷ ys)) (λ r. r)) (e : p ≡ second a b xs) where
    left : Left from all before l at (order_bit a b p g >>= λ g'. greater_from g' xs ys) (λ r. r)
    left = rw e (rw order_at at h)

    pub order_room : RoomFor at (order_bit a b p g) l
    order_room = left_room (order_bit a b p g) (λ g'. greater_from g' xs ys) left

    pub order_turn : {l' : List ℤ} {m : Made Lit} → Makes at (order_bit a b p g) l l' m → Left from all before l' m.to (greater_from m.value xs ys) (λ r. r)
    order_turn w = left_step (order_bit a b p g) (λ g'. greater_from g' xs ys) left w

pub equal_none : (e : Lit) (xs : List Lit) → equal_from e xs [] ≡ ret e
equal_none e [] = refl
equal_none e (a ∷ xs) = refl

pub greater_none : (g : Lit) (xs : List Lit) → greater_from g xs [] ≡ ret g
greater_none g [] = refl
greater_none g (a ∷ xs) = refl
