-- The answer of decoding as the code has it: where a clause is false, writing was done all the same. Assumes nothing.
use Rattle.std.specs.Prelude.{Result, Ok, Err, Option, Some, None, ℕ}
use Rattle.sheet.specs.declared.Reason.TheVariants.{FalseClause}
use Rattle.sheet.specs.declared.Refusal.{Refusal}
use Rattle.sheet.specs.Acceptance.{Outcome, refused, Sheet}
use Rattle.sheet.specs.Calls.{◌giving◌}
use Rattle.decode.specs.declared.Tried.{Tried}

-- the table that could be decoded
abbrev pub sheet_tried : Result Tried Refusal → Outcome Sheet
sheet_tried answer = answer giving λ tried. tried.sheet

-- refused 19 at the first false clause, if there is one
abbrev pub unless_false : Option ℕ → Sheet → Outcome Sheet
unless_false None sheet = Ok sheet
unless_false (Some clause) sheet = refused FalseClause clause

abbrev pub outcome_of : Result Tried Refusal → Outcome Sheet
outcome_of (Err refusal) = Err refusal
outcome_of (Ok tried) = unless_false tried.false_clause tried.sheet
