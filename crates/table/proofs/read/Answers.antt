-- `table::read` meets its contract. Assumes nothing.
use mathlib.Core.Path.{sym}
use native.Mathlib.Omega.{arith}
use Rattle.std.proofs.lemmas.Grind.{common_steps}
use Rattle.std.proofs.lemmas.Result.{err_from_is_err_and}
use Rattle.table.proofs.Lengths.{is_refused, is_walked}
use Rattle.table.proofs.Walking.{walking_none, walked, walking_stop, walking_next, bounded}
use Rattle.table.proofs.read.Goals as goal

pub returns-in_err-test_length-clause-answer : goal.returns-in_err-test_length-clause-answer
returns-in_err-test_length-clause-answer c =
    let p = err_from_is_err_and c.from_residual.result c.from_residual.ensures.1 in
    rw (p.1, p.2) (sym (is_refused _ (sym c.in_err-test_length.ensures)))

pub loop-r-init : goal.loop-r-init
loop-r-init c = rw c.requires (walking_none (is_walked _ (sym c.in_ok-test_length.ensures)))

pub returns-in_default-clause-answer : goal.returns-in_default-clause-answer
returns-in_default-clause-answer c =
    rw c.at.ensures (walking_stop c.loop-r.invariant c.loop-r-test.true (rw c.unwrap_err.ensures at c.pass-verdict.ensures.verdict))

pub loop-r-preserved : goal.loop-r-preserved
loop-r-preserved c =
    let e = c.in-Ok.ensures in
    let p = c.push.ensures in
    walking_next c.loop-r.invariant c.loop-r-test.true e.reads e.verdict e.bounded p.rows p.records p.counts

pub returns-then-ends_in_number-clause-answer : goal.returns-then-ends_in_number-clause-answer
returns-then-ends_in_number-clause-answer c = let (read, left) = walked c.loop-r.invariant (omega arith) in grind (arith, common_steps)

pub returns-clause-answer : goal.returns-clause-answer
returns-clause-answer c = let (read, left) = walked c.loop-r.invariant (omega arith) in grind (arith, common_steps)

pub returns-clause-bounds : goal.returns-clause-bounds
returns-clause-bounds c = let p = c.count_more.ensures in bounded c.loop-r.invariant (omega arith) p.rows p.records p.counts
