-- `leaf_row::integer`: the variables so far, and those that are left.
use Rattle.std.proofs.Common.{◌≡◌, ◌+◌, ◌-◌, ◌++◌, length}
use Rattle.circuit.specs.Circuits.{out}
use Rattle.circuit.specs.Numbers.{unknown}
use Rattle.leaf_row.proofs.integer.Given as goal

abbrev pub invariant-loop : goal.invariant-loop
invariant-loop l =
    (l.next ≡ l.from.next + l.counter) × (length l.value ≡ l.counter) × (l.value ++ out l.next (unknown (l.p - l.counter)) ≡ out l.from.next (unknown l.p))
