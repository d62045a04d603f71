-- How many bits an unknown may declare, as acceptance holds it to. Assumes nothing.
use Rattle.std.specs.Prelude.{ℕ, ◌≤◌}
use Rattle.sheet.specs.Rows.{Uses, a_flag, a_boolean, a_natural, an_integer, a_constant, the_rows}

abbrev pub Declared : Uses → (p : ℕ) → Type 0
Declared a_flag p = Unit {0}
Declared a_boolean p = Unit {0}
Declared a_natural p = p ≤ 31
Declared an_integer p = (1 ≤ p) × (p ≤ 32)
Declared a_constant p = Unit {0}
Declared (the_rows sorts) p = Unit {0}
