-- `lines::put_rows` meets its contract. Assumes nothing.
use native.Mathlib.Omega.{arith}
use Rattle.frame.proofs.Frames.{rest_all}
use Rattle.lines.proofs.Laws.{left_all, left_step, left_none}
use Rattle.lines.proofs.put_rows.Goals as goal

pub loop-row-init : goal.loop-row-init
loop-row-init c = left_all _ _ _

pub loop-row-preserved : goal.loop-row-preserved
loop-row-preserved c =
    let s = c.args in
    left_step s.table.now s.text.now s.rows c.loop-row.invariant (omega arith) (omega arith) (rw rest_all at c.put_row.ensures)

pub returns : goal.returns
returns c = left_none c.args.table.now c.args.text.now c.args.rows c.loop-row.invariant (omega arith)
