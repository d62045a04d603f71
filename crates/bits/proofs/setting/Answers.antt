-- `bits::setting` meets its contract. Assumes nothing.
use Rattle.std.proofs.Common.{◌∙◌, ap, pos, get_or, rules, arith}
use Rattle.std.proofs.lemmas.Int.{to_z-of_z}
use borrow.Author.Tests.{ne_eqb}
use mir.Syntax.{w32, w64}
use mir.Val.{SFits}
use Rattle.whole.specs.Bits.{bit}
use Rattle.bits.specs.Readings.{values}
use Rattle.bits.proofs.Reading.{byte_bit, first_value}
use Rattle.bits.proofs.setting.Goals as goal

pub returns-then-row-eq0 : goal.returns-then-row-eq0
returns-then-row-eq0 c =
    let l = c.args.page.now in
    let x : SFits w32 (get_or l 0 (pos 0)) = search rules in
    let r : SFits w64 c.from.result = search rules in
    let b = rw to_z-of_z at c.is_true.ensures in
    rw (to_z-of_z, c.from.ensures, c.if-row-eq0.true)
    (ap pos (byte_bit c.is_true.result) ∙ ap (λ t. pos (bit t)) (b ∙ first_value c.args.model.now c.args.row.width l c.requires.some (omega arith)))

pub returns : goal.returns
unfolding values
returns c =
    let r : SFits w64 c.read.result = search rules in
    rw (to_z-of_z, c.read.ensures, ne_eqb c.args.row.sort 0 c.if-row-eq0.false)
