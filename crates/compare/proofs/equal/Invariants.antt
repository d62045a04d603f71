-- `compare::equal` meets its contract. Assumes nothing.
use Rattle.std.specs.Iterator.Adapters.{zip_first, zip_second}
use Rattle.std.specs.Slice.Iter.{iter_rest}
use Rattle.circuit.specs.Literals.{truth}
use Rattle.circuit.specs.Numbers.{equal_from}
use Rattle.frame.proofs.Loops.{Left}
use Rattle.compare.proofs.equal.Given as goal

-- the comparison of the places that are left, is left
abbrev pub invariant-loop-a : goal.invariant-loop-a
invariant-loop-a l =
    Left l.fn.from (equal_from truth l.x l.y) l.initial.slots l.slots l.e.to (equal_from l.e.value (iter_rest (zip_first l.a-iterator)) (iter_rest (zip_second l.a-iterator))) (λ r. r)
