-- `evaluate::fill` meets its contract. Assumes nothing.
use Rattle.std.proofs.Common.{◌≡◌, ◌∙◌, ap, ◌+◌, get_or, length, arith, rules}
use mir.Facts.{to_z-of_z}
use mir.Syntax.{w64}
use mir.Val.{SFits}
use Rattle.whole.specs.Bits.{bit}
use Rattle.sheet.specs.Rows.{uses, is_unknown}
use Rattle.table.proofs.Rowwise.{no_fields}
use Rattle.evaluate.proofs.Filling.{filling_none, filling_end, Words, filling_ready, filling_next}
use Rattle.evaluate.proofs.fill.Goals as goal
use Rattle.evaluate.proofs.fill.Goals.{then-is_unknown, else-is_unknown}

pub loop-r-init : goal.loop-r-init
loop-r-init c = filling_none c.requires.chosen

pub numerator_of_row-requires : goal.numerator_of_row-requires
numerator_of_row-requires c =
    let rows = c.rows-f-items.ensures.rows in
    let words : Words c.loop-r.results c.places-at.result = record { x = search rules; y = search rules; z = search rules } in
    filling_ready c.loop-r.invariant c.requires.accepted c.requires.room (omega (arith, ap length rows)) (ap (λ fs. get_or fs c.loop-r.r no_fields) rows)
    c.records-records.ensures.records c.places-at.ensures words

pub loop-r-preserved : goal.loop-r-preserved
loop-r-preserved c =
    let rows = c.rows-f-items.ensures.rows in
    let f = get_or c.rows-f-items.result.now c.loop-r.r no_fields in
    let words : Words c.loop-r.results c.places-at.result = record { x = search rules; y = search rules; z = search rules } in
    let value : SFits w64 c.value_at.result = search rules in
    let number : SFits w64 c.numerator_of_row.result = search rules in
    let e = rw (to_z-of_z value, c.value_at.ensures) at c.numerator_of_row.ensures in
    let taken : c.if-is_unknown.i ≡ c.loop-r.i + bit (is_unknown (uses f.kind)) =
    elim c.if-is_unknown.branch [
      | then-is_unknown w ↦ rw (← c.is_unknown.ensures, w.if-is_unknown.true) w.i-is
      | else-is_unknown w ↦ rw (← c.is_unknown.ensures, w.if-is_unknown.false) (omega (arith, w.i-is))
    ] in
    rw taken
    (filling_next c.loop-r.invariant c.requires.accepted c.requires.room (omega (arith, ap length rows)) (ap (λ fs. get_or fs c.loop-r.r no_fields) rows)
    c.records-records.ensures.records c.places-at.ensures words (to_z-of_z number ∙ e))

pub returns : goal.returns
returns c = filling_end c.loop-r.invariant (omega (arith, ap length c.rows-f-items.ensures.rows))
