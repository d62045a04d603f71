-- `table::read` meets its contract. Assumes nothing.
use Rattle.table.proofs.Walking.{Walking}
use Rattle.table.proofs.read.Given as goal

abbrev pub invariant-loop-r : goal.invariant-loop-r
invariant-loop-r l = Walking l.table l.r-end l.r l.sheet
