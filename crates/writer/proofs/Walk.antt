-- The walk over a table's rows: what is left of their circuit to be written, and the rows of the map so far. One law a row, whatever its kind.
-- Assumes nothing.
use mathlib.Core.Path.{◌≡◌, refl, sym, ap, ◌∙◌}
use mathlib.Core.List.{List, [], ◌∷◌, ◌++◌}
use Prim.Native.Nat.{ℕ, ◌+◌, ◌*◌, ◌≤◌, ◌<◌}
use native.Mathlib.Decide.{dec_lt}
use native.Mathlib.Omega.{arith}
use lib.IntN.{ℤ}
use lib.ListN.{length, take, drop, get_or-eq_default, length-append, take-append-drop}
use lib.Seq.{drop-drop, drop_at, length-take-le}
use Rattle.circuit.specs.declared.Counts.{Counts}
use Rattle.circuit.specs.Literals.{Lit, falsity}
use Rattle.circuit.specs.Circuits.{Circuit, out}
use Rattle.circuit.proofs.Lengths.{after, cost_sound}
use Rattle.sheet.specs.declared.Fields.{Fields}
use Rattle.sheet.specs.declared.Record.{Record}
use Rattle.sheet.specs.declared.References.{References}
use Rattle.sheet.specs.Acceptance.{missing, record_at}
use Rattle.sheet.specs.Steps.{Cell, cell, cell_at, page, pages, row_steps, steps_from}
use Rattle.sheet.proofs.Accepted.{Passes, passes_narrow}
use Rattle.sheet.proofs.Counted.{CellFor, CellsFor, cells_snoc, cells_many, row_cost}
use Rattle.sheet.proofs.Pages.{Narrow, narrow_snoc, page_long, pages_long}
use Rattle.frame.specs.declared.Cursor.{Cursor}
use Rattle.frame.specs.declared.Made.{Made}
use Rattle.frame.specs.Frame.{front, over}
use Rattle.frame.specs.Written.{RoomFor, Makes}
use Rattle.frame.proofs.Frames.{length_over}
use Rattle.frame.proofs.Loops.{Left, left_all, left_room, left_step, left_none}
use Rattle.numbers.specs.Bounds.{Denominator}
use Rattle.literal_map.specs.declared.Operand.{Operand}
use Rattle.literal_map.specs.Cells.{operand_in, false_row, InMap, IsOperand, cell_of, Referred}
use Rattle.literal_map.specs.Rows.{RowMade}
use Rattle.literal_map.proofs.Reading.{cell_read, row_in, map_more}
use Rattle.number_row.specs.Over.{IsOver}
use Rattle.row_writer.specs.Ready.{Ready, steps_over}

-- r rows are done, with the records rs, and `rest` is left; writing goes on at `at`
pub record Walk (from : Cursor) (all : List Fields) (map₀ slots₀ map slots : List ℤ) (at : Cursor) (r : ℕ) (rs : List Record) (rest : List Fields) : Type 0 where
  pub cells : List Cell
  pub many : length cells ≡ r
  pub narrow : Narrow cells
  pub fit : CellsFor at.next rs cells
  pub long : length map ≡ length map₀
  pub done : take (48 * r) map ≡ pages cells
  pub kept : drop (48 * r) map ≡ drop (48 * r) map₀
  pub left : Left from (steps_from [] all) slots₀ slots at (steps_from cells rest) (λ cs. cs)

pub walk_all : {from : Cursor} (all : List Fields) {map slots : List ℤ} → RoomFor from (steps_from [] all) slots → Walk from all map slots map slots from 0 [] all
walk_all all room = record { cells = []; many = refl; narrow = tt; fit = tt; long = refl; done = refl; kept = refl; left = left_all (steps_from [] all) room }

module _ {from : Cursor} {all : List Fields} {map₀ slots₀ map slots : List ℤ} {at : Cursor} {r : ℕ} {rs : List Record} {f : Fields} {rest : List Fields}
    (p : Walk from all map₀ slots₀ map slots at r rs (f ∷ rest)) where
  -- the row's circuit, and that of those behind it
  abbrev pub circuit : Circuit Cell
  circuit = row_steps p.cells f

  abbrev others : Cell → Circuit (List Cell)
  others c = steps_from (p.cells ++ c ∷ []) rest

  pub walk_room : RoomFor at circuit slots
  walk_room = left_room circuit others p.left

  -- a row that is done is read from the map
  pub walk_cell : 0 < at.next → (x : ℕ) → x < r → cell_of (operand_in map x (record_at rs x)) ≡ cell_at p.cells x
  walk_cell some x h = cell_read r p.cells map p.narrow p.many p.done at.next some rs p.fit x h

  pub walk_in : 0 < at.next → 48 * r ≤ length map → (x : ℕ) → x < r → InMap map x (record_at rs x)
  walk_in some long x h = row_in r p.cells map p.narrow p.many p.done at.next some rs p.fit x h (omega (arith, walk_room.number)) long

  -- what the row refers to is a row that is done, with its record, or false
  pub record Stands (x : ℕ) (o : Operand) : Type 0 where
    pub cell : cell_of o ≡ cell_at p.cells x
    pub is_record : o.record ≡ record_at rs x
    pub operand : IsOperand o

  pub walk_operand : 0 < at.next → (x : ℕ) {of : Record} {o : Operand} → (x < r → of ≡ record_at rs x) → Referred map r x of o → Stands x o
  walk_operand some x {of} {o} e q = by (dec_lt x r)
    where
      by : Dec (x < r) → Stands x o
      by (yes h) =
          let g : o ≡ operand_in map x (record_at rs x) = q.earlier h ∙ ap (operand_in map x) (e h) in
          record { cell = ap cell_of g ∙ walk_cell some x h; is_record = ap (λ (u : Operand). u.record) g; operand = q.operand }
      by (no h) =
          let g : o ≡ false_row = q.not_earlier (omega arith) in
          record {
            cell = ap cell_of g ∙ sym (get_or-eq_default p.cells (cell (falsity ∷ []) 1) (omega (arith, p.many)));
            is_record = ap (λ (u : Operand). u.record) g ∙ sym (get_or-eq_default rs missing (omega (arith, p.many, cells_many at.next rs p.cells p.fit)));
            operand = q.operand;
          }

  module _ {of : References Operand} (x : Stands f.x of.x) (y : Stands f.y of.y) (z : Stands f.z of.z) where
    pub over_circuit : steps_over f of ≡ circuit
    unfolding row_steps
    over_circuit = rw (x.cell, y.cell, z.cell)

    -- so a row that passes is ready to be written
    pub walk_ready : ((i : ℕ) → Denominator (record_at rs i).denominator) → {slot : ℕ} {own : Record} {k : Counts} → Passes rs slot f own k → Ready f of
    walk_ready d a = record {
      left = over x;
      right = over y;
      third = over z;
      ranged = a.ranged;
      widest = rw (x.is_record, y.is_record, z.is_record) a.widest;
    }
      where
        over : {i : ℕ} {o : Operand} → Stands i o → IsOver o
        over {i} s = record { operand = s.operand; denominator = rw s.is_record (d i) }

  -- a row that passes: its record is that of what its circuit makes
  module _ (some : 0 < at.next) {slot : ℕ} {own : Record} {k : Counts} (a : Passes rs slot f own k) where
    abbrev cell_made : Cell
    cell_made = out at.next circuit

    made : CellFor (after at.next circuit) own cell_made
    made = (cost_sound (row_cost (record { place = at.next; asked = 0; clauses = 0; slots = 0 }) some rs p.cells p.fit slot f own k a)).1.1

    few : length cell_made.literals ≤ 48
    few = omega (arith, made.lits.size, passes_narrow a)

    -- the row is written, and stands in the map
    pub walk_next : {map' slots' : List ℤ} {m : Made (List Lit)} → 48 * r + 48 ≤ length map → RowMade at circuit slots slots' m → map' ≡ over (48 * r) (page m.value) map
        → Walk from all map₀ slots₀ map' slots' m.to (r + 1) (rs ++ own ∷ []) rest
    unfolding over front
    walk_next {map'} {slots'} {m} room w e =
        let v = page cell_made.literals in
        let lv : length v ≡ 48 = page_long cell_made.literals few in
        let lt : length (take (48 * r) map) ≡ 48 * r = length-take-le (48 * r) map (omega arith) in
        let next : 48 * (r + 1) ≡ 48 * r + 48 = omega arith in
        let g : map' ≡ over (48 * r) v map = rw w.literals at e in
        let below : drop (48 * r) map' ≡ v ++ drop 48 (drop (48 * r) map)
        = ap (drop (48 * r)) g ∙ drop_at (take (48 * r) map) (v ++ drop (length v) (drop (48 * r) map)) (48 * r) lt ∙ ap (λ (i : ℕ). v ++ drop i (drop (48 * r) map)) lv in
        let makes : Makes at circuit slots slots' (record { value = cell_made; to = m.to }) = record { wrote = w.wrote; value = refl } in
        record {
          cells = p.cells ++ cell_made ∷ [];
          many = length-append p.cells (cell_made ∷ []) ∙ omega (arith, p.many);
          narrow = narrow_snoc p.cells cell_made p.narrow few;
          fit = cells_snoc at.next m.to.next rs p.cells own cell_made (omega (arith, w.wrote.number)) p.fit (rw w.wrote.number made);
          long = ap length g ∙ length_over (48 * r) v map (omega arith) ∙ p.long;
          done = ap (take (48 * (r + 1))) g ∙ map_more r p.cells map p.narrow p.many p.done cell_made few room;
          kept = rw (next, ← drop-drop 48 (48 * r) map', below, drop_at v (drop 48 (drop (48 * r) map)) 48 lv, p.kept) (drop-drop 48 (48 * r) map₀);
          left = left_step circuit others p.left makes;
        }

-- all rows are done: slots and map are the table's
module _ {from : Cursor} {all : List Fields} {map₀ slots₀ map slots : List ℤ} {at : Cursor} {r : ℕ} {rs : List Record} (p : Walk from all map₀ slots₀ map slots at r rs []) where
  pub walk_made : Makes from (steps_from [] all) slots₀ slots (record { value = p.cells; to = at })
  walk_made = left_none p.left

  pub walk_map : map ≡ front (pages (out from.next (steps_from [] all))) map₀
  unfolding front
  walk_map =
      let l : length (pages p.cells) ≡ 48 * r = pages_long p.cells p.narrow ∙ ap (λ (i : ℕ). 48 * i) p.many in
      rw (← walk_made.value, l, ← p.kept, ← p.done) (sym (take-append-drop (48 * r) map))
