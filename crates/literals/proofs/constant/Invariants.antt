-- `literals::constant`: the bits so far, and those of the rest.
use Rattle.std.proofs.Common.{◌≡◌, ◌-◌, ◌++◌, map, length}
use Rattle.whole.specs.Bits.{bits_of}
use Rattle.circuit.specs.Literals.{known}
use Rattle.circuit.specs.Numbers.{constant}
use Rattle.literals.proofs.constant.Given as goal

abbrev pub invariant-loop : goal.invariant-loop
invariant-loop l = (length l.number ≡ l.counter) × (l.number ++ map known (bits_of (l.end - l.counter) l.rest) ≡ constant l.n)
