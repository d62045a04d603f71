-- The refusals of a table's length, and where the rows that a row refers to stand. Assumes nothing.
use Rattle.std.specs.Prelude.{Ok, [], not, ℕ, ◌/◌, ◌%◌, min, eqb, ltb}
use Rattle.circuit.specs.Counting.{the_first}
use Rattle.whole.specs.Tests.{if◌then◌otherwise◌}
use Rattle.sheet.specs.declared.Fields.{Fields}
use Rattle.sheet.specs.declared.Reason.TheVariants.{WrongLength, TooManyRows}
use Rattle.sheet.specs.declared.References.{References}
use Rattle.sheet.specs.Acceptance.{Outcome, refused, Sheet}

unfoldable pub length_tested : ℕ → Outcome (Unit {0})
length_tested n =
    if eqb n 0 then refused WrongLength 0 otherwise if not (eqb (n % 8) 0) then refused WrongLength 0 otherwise if ltb 256 (n / 8) then refused TooManyRows 0 otherwise Ok tt

-- before the first row
abbrev pub no_rows : Sheet
no_rows = record { rows = []; records = []; counts = the_first }

-- where the rows that a row refers to stand behind r others
abbrev pub places_of : (r : ℕ) → Fields → References ℕ
places_of r f = record { x = min f.x r; y = min f.y r; z = min f.z r }
