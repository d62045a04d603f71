-- What is known of a sheet for which values are chosen. Assumes nothing.
use Rattle.std.proofs.Common.{◌≡◌, List, ℕ, Ok, length, ℤ}
use Rattle.sheet.specs.Values.{Chosen}
use Rattle.sheet.specs.Acceptance.{Sheet}
use Rattle.sheet.specs.Calls.{choosing}
use Rattle.sheet.proofs.Called.{choosing_tells}
use Rattle.table.specs.Accepted.{Accepted}
use Rattle.table.proofs.Rowwise.{as_many}

module _ (table : List ℕ) (values : List ℤ) (sheet : Sheet) (e : choosing table values ≡ Ok sheet) where
  pub chosen_accepted : Accepted sheet
  chosen_accepted = record { table = table; is = (choosing_tells table values e).0 }

  pub chosen_within : Chosen sheet.rows values
  chosen_within = (choosing_tells table values e).1

  pub chosen_many : length sheet.records ≡ length sheet.rows
  chosen_many = as_many chosen_accepted

pub ruleset chosen = (chosen_accepted, chosen_many)
