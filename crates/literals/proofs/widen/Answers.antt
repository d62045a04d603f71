-- `literals::widen` meets its contract. Assumes nothing.
use Rattle.std.proofs.Common.{◌∙◌, arith}
use Rattle.literals.proofs.Widening.{extended_end, extended_more}
use Rattle.literals.proofs.widen.Goals as goal

pub loop-preserved : goal.loop-preserved
loop-preserved c =
    let item = rw c.literals.ensures.literals at c.in-Some.ensures.item in
    (omega arith, c.push.ensures ∙ rw c.loop.invariant.1 (extended_more c.loop.counter c.args.x.now c.in-Some.sign.now (omega arith) item.3.0 item.1))

pub returns-after-loop : goal.returns-after-loop
returns-after-loop c = c.loop.invariant.1 ∙ extended_end c.loop.counter c.args.width c.args.x.now c.loop-test.false c.loop.invariant.0
