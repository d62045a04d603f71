-- `extender::extend_rows` meets its contract. Assumes nothing.
use Rattle.extender.proofs.Walking.{Walking}
use Rattle.extender.proofs.extend_rows.Given as goal

abbrev pub invariant-loop-r : goal.invariant-loop-r
invariant-loop-r l = Walking l.sheet l.values l.fn.model l.model l.u l.r
