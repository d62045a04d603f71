-- `bits::read` meets its contract. Assumes nothing.
use Rattle.bits.proofs.Reading.{ReadDown}
use Rattle.bits.proofs.read.Given as goal

abbrev pub invariant-loop-x : goal.invariant-loop-x
invariant-loop-x l = ReadDown l.model l.literals l.x-iterator.iter.rest.now l.v
