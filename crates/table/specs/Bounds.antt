-- What every accepted sheet keeps to, so that no sum over it wraps. Assumes nothing.
use Rattle.std.specs.Prelude.{◌≤◌, length}
use Rattle.std.specs.List.{All}
use Rattle.sheet.specs.Acceptance.{Sheet}
use Rattle.counting.specs.Bounds.{Below}
use Rattle.judge.specs.Bounds.{InLimits}

pub record InBounds (sheet : Sheet) : Type 0 where
  pub few : length sheet.rows ≤ 256
  pub limits : All InLimits sheet.records
  pub counts : Below 50000000 sheet.counts
