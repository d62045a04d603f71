-- An accepted sheet whose literal map was written, and a model with a byte for each of its variables. Assumes nothing.
use Rattle.std.specs.Prelude.{◌≡◌, List, ◌++◌, ℕ, length, ℤ}
use Rattle.sheet.specs.Acceptance.{Sheet}
use Rattle.sheet.specs.Steps.{map_for}
use Rattle.table.specs.Accepted.{Accepted}

pub record Written (sheet : Sheet) (map : List ℤ) (model : List ℕ) : Type 0 where
  pub accepted : Accepted sheet
  pub behind : List ℤ
  pub in_map : map ≡ map_for sheet.rows ++ behind
  pub variables : length model ≡ sheet.counts.variables
