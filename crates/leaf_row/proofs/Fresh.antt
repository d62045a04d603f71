-- The variables of unknowns, and rows that write nothing. Assumes nothing.
use Rattle.std.proofs.Common.{◌≡◌, refl, ap, ◌∙◌, ℕ, zero, suc, ◌+◌, ◌-◌, ◌<◌, List, [], ◌∷◌, ◌++◌, append_assoc, add-one, arith, length, ℤ}
use Rattle.circuit.specs.Literals.{Lit, plus, falsity}
use Rattle.circuit.specs.Circuits.{Circuit, gates, out}
use Rattle.circuit.specs.Numbers.{unknown}
use Rattle.circuit.proofs.Lengths.{gates_same, out_same}
use Rattle.sheet.specs.Steps.{Cell, cell, number_cell, with_sign}
use Rattle.frame.specs.declared.Cursor.{Cursor}
use Rattle.frame.specs.declared.Made.{Made}
use Rattle.frame.specs.Written.{written, Wrote}
use Rattle.literal_map.specs.Rows.{RowMade}

unknown_out : (n p : ℕ) → out n (unknown (suc p)) ≡ plus n ∷ out (suc n) (unknown p)
unknown_out n p = out_same (suc n) (unknown p) (λ ls. plus n ∷ ls)

pub unknown_length : (n p : ℕ) → length (out n (unknown p)) ≡ p
unknown_length n zero = refl
unknown_length n (suc p) = rw (unknown_out n p) (ap suc (unknown_length (suc n) p))

pub unknown_many : (n p : ℕ) → length (gates n (unknown p)) ≡ p
unknown_many n zero = refl
unknown_many n (suc p) = rw (gates_same (suc n) (unknown p) (λ ls. plus n ∷ ls)) (ap suc (unknown_many (suc n) p))

-- they write nothing
pub unknown_writes : (n p : ℕ) → written n (gates n (unknown p)) ≡ []
unfolding written
unknown_writes n zero = refl
unknown_writes n (suc p) = rw (gates_same (suc n) (unknown p) (λ ls. plus n ∷ ls)) (unknown_writes (suc n) p)

-- one more of those that are left
pub unknown_more : (done : List Lit) (n to i : ℕ) → i < to → (done ++ plus n ∷ []) ++ out (n + 1) (unknown (to - (i + 1))) ≡ done ++ out n (unknown (to - i))
unknown_more done n to i h =
    let e : to - i ≡ suc (to - (i + 1)) = omega arith in
    rw (e, unknown_out n (to - (i + 1)), add-one n) (append_assoc done (plus n ∷ []) (out (suc n) (unknown (to - (i + 1)))))

-- ---- what a number's row makes is what its circuit makes, and a natural's sign behind it
abbrev number : ℕ → List Lit → Cell
number z ls = cell ls z

abbrev with_false : List Lit → List Lit
with_false ls = ls ++ falsity ∷ []

module _ {from : Cursor} {before after : List ℤ} {m : Made (List Lit)} (z : ℕ) (c : Circuit (List Lit)) where
  pub row_of : Wrote from (gates from.next c) before after m.to → m.value ≡ out from.next c → RowMade from (number_cell z c) before after m
  row_of w e = record { wrote = rw (gates_same from.next c (number z)) w; literals = rw (out_same from.next c (number z)) e }

  pub row_value : RowMade from (number_cell z c) before after m → m.value ≡ out from.next c
  row_value r = rw (out_same from.next c (number z)) at r.literals

  pub signed_row : {signed : List Lit} → RowMade from (number_cell z c) before after m → signed ≡ m.value ++ falsity ∷ []
      → RowMade from (number_cell z (with_sign c)) before after (record { value = signed; to = m.to })
  signed_row r e = record {
    wrote = rw (gates_same from.next (with_sign c) (number z), gates_same from.next c with_false, ← gates_same from.next c (number z)) r.wrote;
    literals = e ∙ rw (out_same from.next (with_sign c) (number z), out_same from.next c with_false, row_value r);
  }
