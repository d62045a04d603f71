-- `extend::PartialModel::greater` meets its contract. Assumes nothing.
use mathlib.Core.Bool.{false}
use Rattle.trace.specs.Traces.{exceeding}
use Rattle.extend.proofs.Putting.{Left}
use Rattle.extend.proofs.PartialModel.greater.Given as goal

abbrev pub invariant-loop-left : goal.invariant-loop-left
invariant-loop-left l = Left l.fn.self (exceeding false l.fn.w l.fn.x l.fn.y) l.self (exceeding l.above l.left l.x l.y)
