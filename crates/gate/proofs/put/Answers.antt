-- `gate::put` meets its contract. Assumes nothing.
use Rattle.frame.proofs.Frames.{lent}
use Rattle.gate.proofs.put.Goals as goal

pub returns-clause-slots : goal.returns-clause-slots
returns-clause-slots c = lent c.args.from.at c.args.clauses.now c.args.slots.now c.write.new.out c.write.ensures
