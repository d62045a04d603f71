-- That the settings program and the values program read no more than 65,536 bytes changes no answer. Assumes nothing.
use Rattle.std.specs.Prelude.{◌≡◌, List, ℕ}
use Rattle.sheet.specs.Programs.{reply, settings_told, values_told, settings_program, values_program}

-- what each prints is what it would print of its whole input, however long
abbrev pub Uncut : Type 0
Uncut = (input : List ℕ) → settings_program input ≡ reply settings_told input

abbrev pub ValuesUncut : Type 0
ValuesUncut = (input : List ℕ) → values_program input ≡ reply values_told input
