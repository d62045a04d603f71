-- `literals::widen`: the number at the width so far.
use Rattle.std.proofs.Common.{◌≡◌, ◌≤◌, max, length}
use Rattle.whole.specs.Bits.{extended}
use Rattle.literals.proofs.widen.Given as goal

abbrev pub invariant-loop : goal.invariant-loop
invariant-loop l = (l.counter ≤ max (length l.x) l.width) × (l.wide ≡ extended l.counter l.x)
