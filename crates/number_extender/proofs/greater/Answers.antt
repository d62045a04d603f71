-- `number_extender::greater` meets its contract. Assumes nothing.
use Rattle.extend.proofs.Words.{kept_fit}
use Rattle.extend.proofs.Putting.{put_then}
use Rattle.number_extender.specs.Operands.{both_brought}
use Rattle.number_extender.proofs.greater.Goals as goal

pub returns : goal.returns
returns c =
    let p = c.bring-p.ensures in
    let m = c.requires.meeting_a_b in
    put_then (both_brought c.args.a c.args.b) _ c.requires.room p.bits (rw (p.width, kept_fit p.left m.left_fits, kept_fit p.right m.right_fits) at c.greater.ensures)
