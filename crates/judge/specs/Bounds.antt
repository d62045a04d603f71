-- What every record and row that passes keeps to, so that no sum wraps and no divisor is 0. Assumes nothing.
use Rattle.std.specs.Prelude.{Ok, Err, ◌≤◌}
use Rattle.sheet.specs.declared.Record.{Record}
use Rattle.sheet.specs.Acceptance.{Verdict}
use Rattle.numbers.specs.Bounds.{Denominator}
use Rattle.counting.specs.Bounds.{Below}

-- the limits of refusals 8 and 9
pub record InLimits (r : Record) : Type 0 where
  pub width : r.width ≤ 48
  pub denominator : Denominator r.denominator

-- no row counts more than two expansions and an adder, each of 48 bits
abbrev pub Bounded : Verdict → Type 0
Bounded (Ok passed) = InLimits passed.row × Below 170000 passed.counts
Bounded (Err reason) = Unit {0}
