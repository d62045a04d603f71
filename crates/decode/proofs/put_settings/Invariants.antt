-- `decode::put_settings` meets its contract. Assumes nothing.
use Rattle.decode.proofs.Putting.{Putting}
use Rattle.decode.proofs.put_settings.Given as goal

abbrev pub invariant-loop-r : goal.invariant-loop-r
invariant-loop-r l = Putting l.sheet l.model l.initial.values l.values l.n l.r
