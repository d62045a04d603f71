-- `adder::add` meets its contract. Assumes nothing.
use Prim.Native.Nat.{◌+◌, ◌≤◌}
use lib.ListN.{length}
use Rattle.std.specs.Iterator.Adapters.{zip_first, zip_second}
use Rattle.std.specs.Slice.Iter.{iter_rest}
use Rattle.circuit.specs.Numbers.{adder}
use Rattle.frame.proofs.Loops.{Filling}
use Rattle.adder.proofs.add.Given as goal

-- the sum of the places that are left, and this carry, is left
abbrev pub invariant-loop-a : goal.invariant-loop-a
invariant-loop-a l = record {
  few : length l.sum + length (iter_rest (zip_first l.a-iterator)) ≤ 48;
  filling : Filling l.fn.from (adder l.fn.carry l.x l.y) l.initial.slots l.slots l.to l.sum (adder l.carry (iter_rest (zip_first l.a-iterator)) (iter_rest (zip_second l.a-iterator)));
}
