-- `extend::PartialModel::add` meets its contract. Assumes nothing.
use Prim.Native.Nat.{◌-◌}
use Rattle.trace.specs.Traces.{adding}
use Rattle.extend.proofs.Putting.{Left}
use Rattle.extend.proofs.PartialModel.add.Given as goal

abbrev pub invariant-loop : goal.invariant-loop
invariant-loop l = Left l.fn.self (adding l.fn.carry l.fn.w l.fn.x l.fn.y) l.self (adding l.carry (l.fn.w - l.counter) l.x l.y)
