-- `extender::extend_rows` meets its contract. Assumes nothing.
use Rattle.std.proofs.Common.{rules}
use mathlib.Core.Path.{◌≡◌, ap, ◌∙◌}
use mathlib.Core.List.{List}
use Prim.Native.Nat.{ℕ, ◌+◌, ◌<◌}
use lib.IntN.{pos}
use lib.ListN.{length, get_or, take, drop_of_length-le}
use mir.Syntax.{w64}
use mir.Val.{to_z, of_z}
use Rattle.whole.specs.Bits.{bit}
use Rattle.sheet.specs.declared.Fields.{Fields}
use Rattle.sheet.specs.declared.Record.{Record}
use Rattle.sheet.specs.declared.References.{References}
use Rattle.sheet.specs.Rows.{uses, is_unknown}
use Rattle.sheet.specs.Acceptance.{record_at}
use Rattle.table.proofs.Rowwise.{Row, row, no_fields}
use Rattle.extend.proofs.Words.{kept}
use Rattle.number_extender.specs.declared.Operand.{Operand}
use Rattle.extender.proofs.Standing.{Stands}
use Rattle.extender.proofs.Walking.{truth_room, walking_none, walking_stands, walking_ready, walking_room, walking_next, walking_end}
use Rattle.extender.proofs.extend_rows.Goals as goal
use Rattle.extender.proofs.extend_rows.Goals.{After-value_at, then-is_unknown, else-is_unknown}

pub put-requires : goal.put-requires
put-requires c = truth_room c.args.sheet.now c.args.values.now c.requires.room

pub loop-r-init : goal.loop-r-init
loop-r-init c = walking_none c.args.sheet.now c.args.values.now c.requires.room c.requires.chosen c.put.ensures

-- row r, and its operands
module _ (s : After-value_at) where
  abbrev f : Fields
  f = get_or s.rows-f-items.result.now s.loop-r.r no_fields

  left : s.loop-r.r < length s.args.sheet.now.rows
  left = rw s.rows-f-items.ensures.rows at s.loop-r-test.true

  here : Row s.args.sheet.now s.loop-r.r f
  here = rw s.rows-f-items.ensures.rows (row s.requires.accepted s.loop-r.r no_fields left)

  abbrev of : References Operand
  of = record { x = s.refer.result; y = s.refer-in-loop-r.result; z = s.refer-in-loop-r-2.result }

  stands : (x : ℕ) {o : Operand} → o.record ≡ record_at (take s.loop-r.r s.records-records.result.now) x → o.numerator ≡ get_or (take s.loop-r.r s.args.results.now) x (pos 0)
      → Stands (take s.loop-r.r s.args.sheet.now.records) s.loop-r.invariant.earlier x o
  stands x e g =
      let is_record = e ∙ ap (λ (rs : List Record). record_at (take s.loop-r.r rs) x) s.records-records.ensures.records in
      walking_stands s.requires.accepted s.loop-r.invariant here left s.args.results.now s.requires.computed x (record { is_record = is_record; is_numerator = g })

  at_x : Stands (take s.loop-r.r s.args.sheet.now.records) s.loop-r.invariant.earlier f.x of.x
  at_x = stands f.x s.refer.ensures.record s.refer.ensures.numerator

  at_y : Stands (take s.loop-r.r s.args.sheet.now.records) s.loop-r.invariant.earlier f.y of.y
  at_y = stands f.y s.refer-in-loop-r.ensures.record s.refer-in-loop-r.ensures.numerator

  at_z : Stands (take s.loop-r.r s.args.sheet.now.records) s.loop-r.invariant.earlier f.z of.z
  at_z = stands f.z s.refer-in-loop-r-2.ensures.record s.refer-in-loop-r-2.ensures.numerator

  value : to_z w64 (of_z w64 s.value_at.result) ≡ get_or s.args.values.now s.loop-r.u (pos 0)
  value = kept s.value_at.result s.value_at.type_inv ∙ s.value_at.ensures

pub extend_row-requires-clause-ready : goal.extend_row-requires-clause-ready
extend_row-requires-clause-ready c = walking_ready c.requires.accepted c.loop-r.invariant (here c) (left c) (of c) (λ k. at_x c) (λ k. at_y c) (λ k. at_z c)

pub extend_row-requires-clause-room : goal.extend_row-requires-clause-room
extend_row-requires-clause-room c = rw (value c) (walking_room c.requires.accepted c.loop-r.invariant (here c) (left c) (of c) (λ k. at_x c) (λ k. at_y c) (λ k. at_z c))

pub loop-r-preserved : goal.loop-r-preserved
loop-r-preserved c =
    let s = (goal.at.loop-r-preserved c).After-value_at in
    let next : c.if-is_unknown.u ≡ c.loop-r.u + bit (is_unknown (uses (f s).kind)) = search rules in
    walking_next c.requires.accepted c.loop-r.invariant (here s) (left s) (of s) (λ k. at_x s) (λ k. at_y s) (λ k. at_z s) next (rw (value s) at c.extend_row.ensures)

pub returns : goal.returns
returns c =
    let none = drop_of_length-le c.args.sheet.now.rows {i = c.loop-r.r} (rw c.rows-f-items.ensures.rows at c.loop-r-test.false) in
    walking_end c.requires.accepted c.loop-r.invariant none
