-- `write::write_table` meets its contract. Assumes nothing.
use mathlib.Core.Path.{◌≡◌, ap, ◌∙◌}
use mathlib.Core.List.{List, [], ◌∷◌}
use Prim.Native.Nat.{ℕ, ◌+◌, ◌*◌, ◌-◌, ◌≤◌}
use native.Mathlib.Omega.{arith}
use borrow.Author.Rules.{rules}
use lib.IntN.{ℤ, pos}
use lib.ListN.{length, get_or}
use mir.Syntax.{w32}
use mir.Val.{SFits}
use mir.Facts.{to_z-of_z}
use Rattle.sheet.specs.declared.Fields.{Fields}
use Rattle.sheet.specs.Acceptance.{Sheet}
use Rattle.frame.proofs.Frames.{lent}
use Rattle.table.specs.Accepted.{Accepted}
use Rattle.table.proofs.Rowwise.{some_rows}
use Rattle.writer.specs.Rows.{row_slots}
use Rattle.writer.proofs.Made.{rows_fit}
use Rattle.write.proofs.Units.{last_literal, units_written, last_read}
use Rattle.write.proofs.write_table.Goals as goal

pub put_unit-requires : goal.put_unit-requires
put_unit-requires c = omega (arith, rows_fit c.requires.accepted, c.requires.slot_room)

pub overflow_sub-rows : goal.overflow_sub-rows
overflow_sub-rows c = omega (arith, some_rows c.requires.accepted, ap length c.rows.ensures.rows)

pub first-last-requires : goal.first-last-requires
first-last-requires c =
    let m : length c.write_rows-at.new.map ≡ length c.args.map.now = search rules in
    omega (arith, some_rows c.requires.accepted, ap length c.rows.ensures.rows, c.requires.map_room, m)

-- behind the rows there is room for the last unit
room_left : {sheet : Sheet} (slots₀ slots : List ℤ) {at : ℕ} → Accepted sheet → sheet.counts.slots ≤ length slots₀ → length slots ≡ length slots₀ → at ≡ 2 + length (row_slots sheet.rows) → at + 2 ≤ length slots
room_left slots₀ slots a h l e = omega (arith, rows_fit a)

pub offset_bounds-slots-at : goal.offset_bounds-slots-at
offset_bounds-slots-at c =
    let l : length c.write_rows-at.new.slots ≡ length c.args.slots.now = search rules in
    let k = room_left c.args.slots.now c.write_rows-at.new.slots c.requires.accepted c.requires.slot_room l c.write_rows-at.ensures.end in
    search rules

pub slice_bounds-put_unit-count : goal.slice_bounds-put_unit-count
slice_bounds-put_unit-count c =
    let l : length c.write_rows-at.new.slots ≡ length c.args.slots.now = search rules in
    let k = room_left c.args.slots.now c.write_rows-at.new.slots c.requires.accepted c.requires.slot_room l c.write_rows-at.ensures.end in
    omega arith

pub slice_bounds-put_unit-start : goal.slice_bounds-put_unit-start
slice_bounds-put_unit-start c =
    let l : length c.write_rows-at.new.slots ≡ length c.args.slots.now = search rules in
    let k = room_left c.args.slots.now c.write_rows-at.new.slots c.requires.accepted c.requires.slot_room l c.write_rows-at.ensures.end in
    search rules

pub put_unit-requires-2 : goal.put_unit-requires-2
put_unit-requires-2 c =
    let l : length c.write_rows-at.new.slots ≡ length c.args.slots.now = search rules in
    let k = room_left c.args.slots.now c.write_rows-at.new.slots c.requires.accepted c.requires.slot_room l c.write_rows-at.ensures.end in
    search rules

pub returns-clause-slots : goal.returns-clause-slots
returns-clause-slots c =
    let v = c.write_rows-at.ensures in
    let rows = c.args.sheet.now.rows in
    let last = c.first-last.ensures ∙ ap (λ (fs : List Fields). get_or c.write_rows-at.new.map (48 * (length fs - 1)) (pos 0)) c.rows.ensures.rows ∙ last_read c.requires.accepted c.args.map.now v.map in
    let q : SFits w32 c.first-last.result = search rules in
    let e = rw (to_z-of_z q, last) at c.put_unit-2.ensures in
    units_written rows c.args.slots.now c.put_unit.ensures v.slots v.end (lent c.write_rows-at.result (last_literal rows ∷ pos 0 ∷ []) c.write_rows-at.new.slots c.put_unit-2.new.out e)
