-- `writer::write_rows` meets its contract. Assumes nothing.
use Rattle.writer.proofs.Walking.{Walking}
use Rattle.writer.proofs.write_rows.Given as goal

abbrev pub invariant-loop-r : goal.invariant-loop-r
invariant-loop-r l = Walking l.sheet l.initial.map l.initial.slots l.map l.slots l.to l.r
