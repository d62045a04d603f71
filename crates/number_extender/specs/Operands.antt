-- The operands of a row: what they are, and two numbers brought to the least common multiple of their denominators. Assumes nothing.
use Rattle.std.specs.Prelude.{◌≡◌, Bool, List, ℕ, ◌≤◌, ℤ, pos}
use Rattle.whole.specs.Tests.{eq_z}
use Rattle.whole.specs.Bits.{Fits}
use Rattle.sheet.specs.Values.{Value, fraction, over}
use Rattle.sheet.specs.Acceptance.{meeting, larger}
use Rattle.numbers.specs.Bounds.{Denominator}
use Rattle.trace.specs.Traces.{bringing}
use Rattle.number_extender.specs.declared.Operand.{Operand}

-- an operand as a Boolean, and as a number
abbrev pub is_true : Operand → Bool
is_true o = eq_z o.numerator (pos 1)

abbrev pub number : Operand → Value
number o = fraction o.numerator o.record.denominator

-- of two numbers that are brought to one denominator: what this puts, the width then, and either of them
abbrev pub both_brought : (a b : Operand) → List Bool
both_brought a b = bringing a.record b.record (number a) (number b)

abbrev pub common_width : (a b : Operand) → ℕ
common_width a b = larger a.record b.record

abbrev pub left : (a b : Operand) → ℤ
left a b = over (meeting a.record b.record) (number a)

abbrev pub right : (a b : Operand) → ℤ
right a b = over (meeting a.record b.record) (number b)

-- a number within the limits
pub record IsNumber (o : Operand) : Type 0 where
  pub sort : o.record.sort ≡ 1
  pub some : 1 ≤ o.record.width
  pub narrow : o.record.width ≤ 48
  pub fits : Fits 48 o.numerator

-- two numbers that meet within the limits: brought together they fit
pub record Meeting (a b : Operand) : Type 0 where
  pub first : IsNumber a
  pub second : IsNumber b
  pub first_over : Denominator a.record.denominator
  pub second_over : Denominator b.record.denominator
  pub narrow : common_width a b ≤ 48
  pub left_fits : Fits 48 (left a b)
  pub right_fits : Fits 48 (right a b)
