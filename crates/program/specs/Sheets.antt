-- The sheet of a table, and of the table in a text's lines, as both programs take it. Assumes nothing.
use Rattle.std.specs.Prelude.{Ok}
use Rattle.std.specs.Prelude.{Ok, Bool, List, ℕ}
use Rattle.sheet.specs.declared.Reason.TheVariants.{FewSlots}
use Rattle.sheet.specs.Acceptance.{Outcome, Sheet, accept}
use Rattle.sheet.specs.Calls.{◌>>=◌, ◌>>◌, refuse◌unless◌fit◌}
use Rattle.sheet.specs.Texts.{read_lines}
use Rattle.sheet.specs.Programs.{sheet_in}

abbrev pub sheet_of : (table : List ℕ) → Outcome Sheet
sheet_of table = do
  sheet ← accept table
  refuse FewSlots unless sheet.counts.slots fit 16384
  Ok sheet

abbrev pub sheet_read : (blank : Bool) → List ℕ → Outcome Sheet
sheet_read blank text = do
  lines ← read_lines blank text 2048
  sheet_in text lines
