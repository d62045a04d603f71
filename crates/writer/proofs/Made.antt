-- What the rows of an accepted table make is what it counts, so there is room for them. Assumes nothing.
use mathlib.Core.Path.{◌≡◌, ap}
use mathlib.Core.List.{List, []}
use Prim.Native.Nat.{ℕ, ◌+◌, ◌≤◌}
use native.Mathlib.Omega.{arith}
use lib.IntN.{ℤ}
use lib.ListN.{length}
use Rattle.circuit.specs.declared.Counts.{Counts}
use Rattle.circuit.specs.Literals.{slots_of}
use Rattle.circuit.specs.Circuits.{gates, clauses_from}
use Rattle.sheet.specs.declared.Fields.{Fields}
use Rattle.sheet.specs.Acceptance.{Sheet}
use Rattle.sheet.specs.Steps.{steps_from, steps}
use Rattle.sheet.proofs.Total.{whole_table}
use Rattle.frame.specs.Written.{written, RoomFor}
use Rattle.table.specs.Accepted.{Accepted}
use Rattle.table.proofs.Rowwise.{tells, few_counts}
use Rattle.writer.specs.Rows.{row_slots}

-- variable 1 and the first unit stand before what the rows make, the last unit behind
rows_make : (rows : List Fields) {v s : ℕ} → length (gates 0 (steps rows)) ≡ v → length (slots_of (clauses_from 0 (gates 0 (steps rows)))) ≡ s
    → (1 + length (gates 1 (steps_from [] rows)) ≡ v) × (2 + length (row_slots rows) ≡ s)
unfolding steps written row_slots
rows_make rows p q = (omega (arith, p), omega (arith, q))

module _ {sheet : Sheet} (a : Accepted sheet) where
  rows_made : (1 + length (gates 1 (steps_from [] sheet.rows)) ≡ sheet.counts.variables) × (2 + length (row_slots sheet.rows) + 2 ≡ sheet.counts.slots)
  rows_made =
      let t = tells a in
      let w = whole_table sheet t.total t.passed in
      let (variables, slots) = rows_make sheet.rows w.variables w.slot in
      (omega (arith, variables, ap (λ (k : Counts). k.variables) t.counted), omega (arith, slots, ap (λ (k : Counts). k.slots) t.counted))

  pub rows_fit : 2 + length (row_slots sheet.rows) + 2 ≡ sheet.counts.slots
  rows_fit = rows_made.1

  pub rows_room : {slots : List ℤ} → sheet.counts.slots ≤ length slots → RoomFor (record { at = 2; next = 1 }) (steps_from [] sheet.rows) slots
  unfolding row_slots
  rows_room h = record { place = omega (arith, rows_made); number = omega (arith, rows_made, (few_counts a).variables) }
