-- `literals::negate_all`: the literals so far, negated.
use Rattle.std.proofs.Common.{◌≡◌, map, take}
use Rattle.circuit.specs.Literals.{neg}
use Rattle.literals.proofs.negate_all.Given as goal

abbrev pub invariant-loop-literal : goal.invariant-loop-literal
invariant-loop-literal l = l.all ≡ map neg (take l.literal-index l.literal-items)
