-- What acceptance says of p. Assumes nothing.
use mathlib.Core.Path.{◌≡◌}
use mathlib.Core.Bool.{false}
use Prim.Native.Nat.{ℕ}
use Rattle.sheet.specs.Rows.{Uses, a_flag, a_boolean, a_natural, an_integer, a_constant, the_rows}
use Rattle.sheet.specs.Acceptance.{outside, out_of_range}
use Rattle.sheet.proofs.Tested.{neither, at_least, at_most}
use Rattle.declared.specs.Declared.{Declared}

pub declared : (u : Uses) (p x z : ℕ) → out_of_range u p x z ≡ false → Declared u p
declared a_flag p x z e = tt
declared a_boolean p x z e = tt
declared a_natural p x z e = at_most 1 31 p (neither (outside 1 31 p) (outside 1 4096 z) e).0
declared an_integer p x z e =
    let bits = (neither (outside 1 32 p) (outside 1 4096 z) e).0 in
    (at_least 1 32 p bits, at_most 1 32 p bits)
declared a_constant p x z e = tt
declared (the_rows sorts) p x z e = tt
