-- `lines::put_rows` meets its contract. Assumes nothing.
use Rattle.lines.proofs.Laws.{Left}
use Rattle.lines.proofs.put_rows.Given as goal

abbrev pub invariant-loop-row : goal.invariant-loop-row
invariant-loop-row l = Left l.initial.table l.text l.rows l.table l.row
