-- What the settings program and the values program print, step by step: of a table and the text behind it, of a table and a model; and a
-- model that can be judged. Assumes nothing.
use Rattle.std.specs.Prelude.{Ok}
use Rattle.std.specs.Prelude.{◌≡◌, Bool, true, false, List, ℕ, length}
use Rattle.circuit.specs.Literals.{Assignment}
use Rattle.sheet.specs.Values.{every}
use Rattle.sheet.specs.Acceptance.{Sheet}
use Rattle.sheet.specs.Calls.{◌>>=◌}
use Rattle.sheet.specs.Texts.{model, claim_in}
use Rattle.sheet.specs.Programs.{printed, settled, settings_told, values_told}
use Rattle.program.specs.Sheets.{sheet_of}
use Rattle.assign.specs.Model.{are_bits}

-- every row's exact value, or the settings of the unknowns
abbrev pub told_by : (all : Bool) → Sheet → Assignment → List ℕ
told_by true = values_told
told_by false = settings_told

unfoldable pub claim_text : (all : Bool) (table rest : List ℕ) → List ℕ
claim_text all table rest = printed (do
  sheet ← sheet_of table
  claim ← claim_in sheet.counts.variables rest
  settled (told_by all) sheet claim)

unfoldable pub told_text : (all : Bool) (table bytes : List ℕ) → List ℕ
told_text all table bytes = printed (do
  sheet ← sheet_of table
  settled (told_by all) sheet (model bytes))

-- the program goes on with a table of so many variables
pub record Taken (table : List ℕ) (variables : ℕ) : Type 0 where
  pub sheet : Sheet
  pub is : sheet_of table ≡ Ok sheet
  pub many : variables ≡ sheet.counts.variables

-- and with a byte, 0 or 1, for each
pub record Told (table bytes : List ℕ) : Type 0 where
  pub taken : Taken table (length bytes)
  pub bits : every (are_bits bytes) ≡ true
