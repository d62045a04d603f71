-- `extend::PartialModel::put_bits` meets its contract. Assumes nothing.
use Prim.Native.Nat.{◌-◌}
use Rattle.whole.specs.Bits.{bits_of}
use Rattle.extend.proofs.Putting.{Left}
use Rattle.extend.proofs.PartialModel.put_bits.Given as goal

abbrev pub invariant-loop : goal.invariant-loop
invariant-loop l = Left l.fn.self (bits_of l.fn.w l.fn.v) l.self (bits_of (l.fn.w - l.counter) l.v)
