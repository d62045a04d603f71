-- `evaluate::fill` meets its contract. Assumes nothing.
use Rattle.evaluate.proofs.Filling.{Filling}
use Rattle.evaluate.proofs.fill.Given as goal

abbrev pub invariant-loop-r : goal.invariant-loop-r
invariant-loop-r l = Filling l.sheet l.values l.initial.results l.results l.i l.r
