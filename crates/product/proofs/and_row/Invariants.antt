-- `product::and_row` meets its contract. Assumes nothing.
use Prim.Native.Nat.{◌+◌, ◌≤◌}
use lib.ListN.{length}
use Rattle.std.specs.Iterator.Adapters.{take_source, take_count}
use Rattle.std.specs.Slice.Iter.{iter_rest}
use Rattle.circuit.specs.Numbers.{ands}
use Rattle.frame.proofs.Loops.{Filling}
use Rattle.product.proofs.and_row.Given as goal

-- the row of the places that are left, is left
abbrev pub invariant-loop-a : goal.invariant-loop-a
invariant-loop-a l = record {
  few : length l.row + take_count l.a-iterator ≤ 48;
  filling : Filling l.fn.from (ands l.n l.x l.bit) l.initial.slots l.slots l.to l.row (ands (take_count l.a-iterator) (iter_rest (take_source l.a-iterator)) l.bit);
}
