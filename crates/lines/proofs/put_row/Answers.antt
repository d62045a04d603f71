-- `lines::put_row` meets its contract. Assumes nothing.
use native.Mathlib.Omega.{arith}
use Rattle.lines.proofs.Laws.{row_more, row_end}
use Rattle.lines.proofs.put_row.Goals as goal

pub loop-i-preserved : goal.loop-i-preserved
loop-i-preserved c =
    rw c.pair.ensures (row_more c.loop-i.row c.args.text.now _ c.loop-i.i c.loop-i.invariant (omega arith) (omega arith))

pub returns : goal.returns
returns c = row_end c.loop-i.row c.args.text.now _ c.loop-i.i c.loop-i.invariant (omega arith) (omega arith)
