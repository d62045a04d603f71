-- The values of literals in slots, and what the first places of a row's page read as. Assumes nothing.
use Rattle.std.specs.Prelude.{Bool, List, map, ℕ, ◌≤◌, ℤ, length, take}
use Rattle.circuit.specs.Literals.{lit_true}
use Rattle.sheet.specs.declared.Record.{Record}
use Rattle.sheet.specs.Calls.{assigned}
use Rattle.frame.specs.Literals.{literals}
use Rattle.assign.specs.Model.{AllLitOf}

-- of the literals in l
unfoldable pub values : (model : List ℕ) → List ℤ → List Bool
values model l = map (lit_true (assigned model)) (literals l)

-- as many literals as a number may have
pub record Readable (variables : ℕ) (l : List ℤ) : Type 0 where
  pub few : length l ≤ 48
  pub all : AllLitOf variables l

-- a row's page holds its literals
pub record Page (variables : ℕ) (r : Record) (l : List ℤ) : Type 0 where
  pub some : 1 ≤ r.width
  pub long : r.width ≤ length l
  pub readable : Readable variables (take r.width l)
