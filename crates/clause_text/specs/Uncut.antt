-- That the clause program reads no more than 65,536 bytes changes no answer. Assumes nothing.
use Rattle.std.specs.Prelude.{Ok, Err}
use Rattle.std.specs.Prelude.{◌≡◌, false, List, ℕ}
use Rattle.sheet.specs.Calls.{◌>>=◌}
use Rattle.sheet.specs.Texts.{dimacs}
use Rattle.sheet.specs.Programs.{printed, clause_program}
use Rattle.program.specs.Sheets.{sheet_read}

-- what it prints is what it would print of its whole input, however long
abbrev pub Uncut : Type 0
Uncut = (input : List ℕ) → clause_program input ≡ printed (do
  sheet ← sheet_read false input
  Ok (dimacs sheet))
