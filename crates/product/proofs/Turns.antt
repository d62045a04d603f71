-- One turn of a row of AND gates, and one row of a product. Assumes nothing.
use mathlib.Core.Path.{◌≡◌, refl}
use mathlib.Core.List.{List, [], ◌∷◌, ◌++◌}
use mathlib.Core.Logic.{◌⊎◌, inl, inr}
use Prim.Native.Nat.{ℕ, zero, suc, ◌≤◌, ◌<◌}
use native.Mathlib.Omega.{arith}
use lib.IntN.{ℤ}
use lib.ListN.{length}
use Rattle.circuit.specs.Literals.{Lit, plus, falsity}
use Rattle.circuit.specs.Gates.{and}
use Rattle.circuit.specs.Circuits.{Circuit, ret, make, ◌>>=◌, out}
use Rattle.circuit.specs.Numbers.{adder, ands, add_rows}
use Rattle.circuit.proofs.Lengths.{out_bind, out_same, bind_assoc}
use Rattle.frame.specs.declared.Cursor.{Cursor}
use Rattle.frame.specs.declared.Made.{Made}
use Rattle.frame.specs.Written.{RoomFor, Makes}
use Rattle.frame.proofs.Loops.{Filling, filling_room, filling_turn}
use Rattle.product.specs.Multiplying.{added_row}

module _ {from : Cursor} {all : Circuit (List Lit)} {before l : List ℤ} {at : Cursor} {done : List Lit} (n : ℕ) (a : Lit) (xs : List Lit) (bit : Lit)
    (h : Filling from all before l at done (ands (suc n) (a ∷ xs) bit)) where
  pub and_room : RoomFor at (make (and a bit)) l
  and_room = filling_room (make (and a bit)) (λ g. g) (λ g. ands n xs bit) h

  pub and_turn : {l' : List ℤ} {m : Made Lit} → Makes at (make (and a bit)) l l' m → Filling from all before l' m.to (done ++ m.value ∷ []) (ands n xs bit)
  and_turn w = filling_turn (make (and a bit)) (λ g. g) (λ g. ands n xs bit) h w

-- no place is left, or no literal
pub ands_none : (n : ℕ) (xs : List Lit) (bit : Lit) → (0 < n → length xs ≡ 0) → ands n xs bit ≡ ret []
ands_none zero xs bit h = refl
ands_none (suc n) [] bit h = refl
ands_none (suc n) (a ∷ xs) bit h = let e : length (a ∷ xs) ≡ 0 = h (omega arith) in absurd (omega arith)

pub ands_length : (m n : ℕ) (xs : List Lit) (bit : Lit) → length (out m (ands n xs bit)) ≤ n
ands_length m zero xs bit = omega arith
ands_length m (suc n) [] bit = omega arith
ands_length m (suc n) (a ∷ xs) bit = rw (out_same (suc m) (ands n xs bit) (λ ls. plus m ∷ ls)) (omega (arith, ands_length (suc m) n xs bit))

-- ---- the sum of a row
pub adder_length : (m : ℕ) (carry : Lit) (xs ys : List Lit) → length (out m (adder carry xs ys)) ≤ length xs
adder_length m carry [] ys = omega arith
adder_length m carry (a ∷ xs) [] = omega arith
adder_length m carry (a ∷ xs) (b ∷ ys) =
    rw (out_same (suc (suc (suc m))) (adder (plus (suc (suc m))) xs ys) (λ ss. plus (suc m) ∷ ss)) (omega (arith, adder_length (suc (suc (suc m))) (plus (suc (suc m))) xs ys))

pub row_length : (m : ℕ) (xs : List Lit) (bit : Lit) (total : List Lit) → length (out m (added_row xs bit total)) ≤ length total
row_length m xs bit total = rw out_bind (adder_length _ falsity total _)

module _ {from : Cursor} {all : Circuit (List Lit)} {before l : List ℤ} {at : Cursor} {done : List Lit} (bit : Lit) (bits xs : List Lit) (lowest : Lit) (above : List Lit)
    (h : Filling from all before l at done (add_rows (bit ∷ bits) xs (lowest ∷ above))) where
  rows : Filling from all before l at done (added_row xs bit above >>= λ total. add_rows bits xs total >>= λ ls. ret (lowest ∷ ls))
  rows = rw bind_assoc h

  pub row_room : RoomFor at (added_row xs bit above) l
  row_room = filling_room (added_row xs bit above) (λ total. lowest) (λ total. add_rows bits xs total) rows

  pub row_turn : {l' : List ℤ} {m : Made (List Lit)} → Makes at (added_row xs bit above) l l' m → Filling from all before l' m.to (done ++ lowest ∷ []) (add_rows bits xs m.value)
  row_turn w = filling_turn (added_row xs bit above) (λ total. lowest) (λ total. add_rows bits xs total) rows w

-- no bit is left, or no literal
pub rows_none : (bits xs total : List Lit) → (length bits ≡ 0) ⊎ (length total ≡ 0) → add_rows bits xs total ≡ ret total
rows_none [] xs total h = refl
rows_none (bit ∷ bits) xs [] h = refl
rows_none (bit ∷ bits) xs (t ∷ total) (inl e) = absurd (omega arith)
rows_none (bit ∷ bits) xs (t ∷ total) (inr e) = absurd (omega arith)
