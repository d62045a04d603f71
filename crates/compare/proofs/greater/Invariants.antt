-- `compare::greater` meets its contract. Assumes nothing.
use mathlib.Core.Path.{◌≡◌}
use Prim.Native.Nat.{◌+◌}
use lib.ListN.{length}
use Rattle.std.specs.Iterator.Adapters.{enumerate_source, enumerate_count, zip_first, zip_second}
use Rattle.std.specs.Slice.Iter.{iter_rest}
use Rattle.circuit.specs.Literals.{falsity}
use Rattle.circuit.specs.Numbers.{greater_from}
use Rattle.frame.proofs.Loops.{Left}
use Rattle.compare.proofs.greater.Given as goal

-- the comparison of the places that are left, is left
abbrev pub invariant-loop-i : goal.invariant-loop-i
invariant-loop-i l = record {
  places : enumerate_count l.i-iterator + length (iter_rest (zip_first (enumerate_source l.i-iterator))) ≡ length l.x;
  left : Left l.fn.from (greater_from falsity l.x l.y) l.initial.slots l.slots l.g.to
      (greater_from l.g.value (iter_rest (zip_first (enumerate_source l.i-iterator))) (iter_rest (zip_second (enumerate_source l.i-iterator)))) (λ r. r);
}
