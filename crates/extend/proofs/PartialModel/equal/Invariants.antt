-- `extend::PartialModel::equal` meets its contract. Assumes nothing.
use mathlib.Core.Bool.{true}
use Prim.Native.Nat.{◌-◌}
use Rattle.trace.specs.Traces.{equalling}
use Rattle.extend.proofs.Putting.{Left}
use Rattle.extend.proofs.PartialModel.equal.Given as goal

abbrev pub invariant-loop : goal.invariant-loop
invariant-loop l = Left l.fn.self (equalling true l.fn.w l.fn.x l.fn.y) l.self (equalling l.same (l.fn.w - l.counter) l.x l.y)
