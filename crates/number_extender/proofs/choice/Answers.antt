-- `number_extender::choice` meets its contract. Assumes nothing.
use mathlib.Core.Path.{sym, ◌∙◌}
use Rattle.extend.proofs.Words.{kept_fit}
use Rattle.extend.proofs.Putting.{put_then}
use Rattle.number_extender.specs.Operands.{both_brought}
use Rattle.number_extender.proofs.choice.Goals as goal

pub returns-then-is_true : goal.returns-then-is_true
returns-then-is_true c =
    let p = c.bring-p.ensures in
    let e = sym c.is_true.ensures ∙ c.if-is_true.true in
    rw e (put_then (both_brought c.args.b c.args.c) _ (rw e at c.requires.room) p.bits (rw (p.width, kept_fit p.left c.requires.meeting_b_c.left_fits) at c.put_bits.ensures))

pub returns-else-is_true : goal.returns-else-is_true
returns-else-is_true c =
    let p = c.bring-p.ensures in
    let e = sym c.is_true.ensures ∙ c.if-is_true.false in
    rw e (put_then (both_brought c.args.b c.args.c) _ (rw e at c.requires.room) p.bits (rw (p.width, kept_fit p.right c.requires.meeting_b_c.right_fits) at c.put_bits-else-is_true.ensures))
