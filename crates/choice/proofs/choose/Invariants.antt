-- `choice::choose` meets its contract. Assumes nothing.
use Prim.Native.Nat.{◌+◌, ◌≤◌}
use lib.ListN.{length}
use Rattle.std.specs.Iterator.Adapters.{zip_first, zip_second}
use Rattle.std.specs.Slice.Iter.{iter_rest}
use Rattle.circuit.specs.Numbers.{muxes}
use Rattle.frame.proofs.Loops.{Filling}
use Rattle.choice.proofs.choose.Given as goal

-- the choice of the places that are left, is left
abbrev pub invariant-loop-a : goal.invariant-loop-a
invariant-loop-a l = record {
  few : length l.chosen + length (iter_rest (zip_first l.a-iterator)) ≤ 48;
  filling : Filling l.fn.from (muxes l.condition l.x l.y) l.initial.slots l.slots l.to l.chosen (muxes l.condition (iter_rest (zip_first l.a-iterator)) (iter_rest (zip_second l.a-iterator)));
}
