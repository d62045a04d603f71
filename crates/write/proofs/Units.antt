-- The first and the last unit around what an accepted table's rows write: the three make its slots, and the last is read from the map.
-- Assumes nothing.
use mathlib.Core.Path.{◌≡◌, refl, sym, ap, ◌∙◌}
use mathlib.Core.List.{List, [], ◌∷◌, ◌++◌}
use Prim.Native.Nat.{ℕ, ◌+◌, ◌*◌, ◌-◌, ◌<◌}
use native.Mathlib.Nat.{add-zero}
use native.Mathlib.Omega.{arith}
use lib.IntN.{ℤ, pos}
use lib.ListN.{length, get_or, drop}
use lib.Seq.{get_or-take, get_or-drop}
use Rattle.circuit.specs.Literals.{Lit, falsity, slot}
use Rattle.circuit.specs.Circuits.{gates, out, clauses_from}
use Rattle.circuit.specs.Counting.{the_first}
use Rattle.circuit.proofs.Lengths.{slots_of_append}
use Rattle.sheet.specs.declared.Fields.{Fields}
use Rattle.sheet.specs.Acceptance.{Sheet}
use Rattle.sheet.specs.Steps.{Cell, lit, cell_at, page, pages, steps_from, steps, cells, clauses_but_last, last_clause, clauses, slots_for, map_for}
use Rattle.sheet.proofs.Counted.{cell_at_lem, cells_many}
use Rattle.sheet.proofs.Pages.{Narrow, narrow_cells, pages_at}
use Rattle.sheet.proofs.Total.{whole_table}
use Rattle.promise.proofs.Counts.{passed_narrow}
use Rattle.table.specs.Accepted.{Accepted}
use Rattle.table.proofs.Rowwise.{tells, some_rows, as_many}
use Rattle.frame.specs.Frame.{front, over}
use Rattle.frame.specs.Written.{written}
use Rattle.frame.proofs.Frames.{front_then}
use Rattle.writer.specs.Rows.{row_slots}

-- the literal of the last row, as a slot
abbrev pub last_literal : List Fields → ℤ
last_literal rows = slot (lit (cell_at (out 1 (steps_from [] rows)) (length rows - 1)))

-- a table's slots: the first unit, what the rows write, the last unit
table_slots : (rows : List Fields) → slots_for rows ≡ (pos 1 ∷ pos 0 ∷ written 1 (gates 1 (steps_from [] rows))) ++ last_literal rows ∷ pos 0 ∷ []
unfolding slots_for clauses clauses_but_last last_clause cells steps written
table_slots rows = slots_of_append (clauses_from 0 (gates 0 (steps rows))) (last_clause rows ∷ [])

-- they are written one behind the other
pub units_written : (rows : List Fields) (slots₀ : List ℤ) {s₁ s₂ s₃ : List ℤ} {at : ℕ}
    → s₁ ≡ front (pos 1 ∷ pos 0 ∷ []) slots₀ → s₂ ≡ over 2 (row_slots rows) s₁ → at ≡ 2 + length (row_slots rows)
    → s₃ ≡ over at (last_literal rows ∷ pos 0 ∷ []) s₂ → s₃ ≡ front (slots_for rows) slots₀
unfolding row_slots
units_written rows slots₀ {at = at} e f g h =
    let unit = pos 1 ∷ pos 0 ∷ [] in
    let ws = row_slots rows in
    let last = last_literal rows ∷ pos 0 ∷ [] in
    h ∙ ap (over at last) (f ∙ ap (over 2 ws) e ∙ front_then 2 unit ws slots₀ refl)
    ∙ front_then at (unit ++ ws) last slots₀ (omega (arith, g))
    ∙ ap (λ (v : List ℤ). front v slots₀) (sym (table_slots rows))

-- a page begins with the row's first literal
page_head : (ls : List Lit) → 0 < length ls → get_or (page ls) 0 (pos 0) ≡ slot (get_or ls 0 falsity)
page_head [] h = absurd (omega arith)
page_head (l ∷ ls) h = refl

-- the first place of row x of a map whose rows are cs
head_read : (cs : List Cell) (rest : List ℤ) (x : ℕ) → Narrow cs → x < length cs → 0 < length (cell_at cs x).literals
    → get_or (pages cs ++ rest) (48 * x) (pos 0) ≡ slot (lit (cell_at cs x))
head_read cs rest x n h some =
    ap (λ (i : ℕ). get_or (pages cs ++ rest) i (pos 0)) (sym (add-zero (48 * x)))
    ∙ sym (get_or-drop (48 * x) (pages cs ++ rest) 0 (pos 0))
    ∙ sym (get_or-take 48 (drop (48 * x) (pages cs ++ rest)) 0 (pos 0) (omega arith))
    ∙ ap (λ (l : List ℤ). get_or l 0 (pos 0)) (pages_at cs x rest n h)
    ∙ page_head (cell_at cs x).literals some

module _ {sheet : Sheet} (a : Accepted sheet) where
  pub last_read : (map₀ : List ℤ) {m : List ℤ} → m ≡ front (map_for sheet.rows) map₀ → get_or m (48 * (length sheet.rows - 1)) (pos 0) ≡ last_literal sheet.rows
  unfolding map_for cells steps front
  last_read map₀ e =
      let x = length sheet.rows - 1 in
      let t = tells a in
      let w = whole_table sheet t.total t.passed in
      let cs = out 1 (steps_from [] sheet.rows) in
      let narrow = narrow_cells _ sheet.records cs w.fit (passed_narrow sheet.rows [] the_first sheet.records t.total t.passed tt) in
      let c = cell_at_lem _ (omega arith) sheet.records cs w.fit x in
      let last : x < length cs = omega (arith, some_rows a, cells_many _ sheet.records cs w.fit, as_many a) in
      ap (λ (l : List ℤ). get_or l (48 * x) (pos 0)) e ∙ head_read cs _ x narrow last (omega (arith, c.some, c.lits.size))
