-- The operands of a row, and the paper's value of the row at them. Assumes nothing.
use Rattle.std.specs.Prelude.{Bool, ℕ, zero, suc, ℤ, pos, ◌*ℤ◌, get_or}
use Rattle.whole.specs.Tests.{eq_z}
use Rattle.whole.specs.Bits.{Fits}
use Rattle.numbers.specs.Bounds.{Denominator}
use Rattle.sheet.specs.declared.Kind.{Kind}
use Rattle.sheet.specs.declared.Kind.TheVariants.{BooleanConstant, BooleanUnknown, NaturalUnknown, IntegerUnknown, NumberConstant}
use Rattle.sheet.specs.declared.Kind.TheVariants.{Not, And, Or, Implies, Iff, Sum, Difference, Product, Choice, Greater, Equal}
use Rattle.sheet.specs.declared.Fields.{Fields}
use Rattle.sheet.specs.declared.References.{References}
use Rattle.sheet.specs.Rows.{uses}
use Rattle.sheet.specs.Values.{Value, boolean, fraction, shared, over, value_by}
use Rattle.sheet.specs.Acceptance.{sorts_in}
use Rattle.row_value.specs.declared.Operand.{Operand}

-- an operand of sort 0 is a Boolean, of sort 1 a number
abbrev pub is_true : Operand → Bool
is_true o = eq_z o.numerator (pos 1)

abbrev pub number : Operand → Value
number o = fraction o.numerator o.denominator

abbrev pub of_sort : (sort : ℕ) → Operand → Value
of_sort zero o = boolean (is_true o)
of_sort (suc s) o = number o

-- the sorts of the rows x, y and z, as far as a kind refers to them
abbrev pub sort_at : Kind → (n : ℕ) → ℕ
sort_at k n = get_or (sorts_in (uses k)) n 0

-- the paper's value of a row, where the rows x, y and z are these operands
abbrev pub value_over : References Operand → Kind → (p x y z : ℕ) → (v : ℤ) → Value
value_over of k p x y z v = value_by k p x y z (of_sort (sort_at k 0) of.x) (of_sort (sort_at k 1) of.y) (of_sort (sort_at k 2) of.z) v

unfoldable pub row_over : References Operand → Fields → (v : ℤ) → Value
row_over of f v = value_over of f.kind f.p f.x f.y f.z v

-- a number brought to the least common multiple of its denominator and another's
abbrev pub common : Operand → Operand → ℕ
common a b = shared (number a) (number b)

abbrev pub brought : (d : ℕ) → Operand → ℤ
brought d a = over d (number a)

-- two numbers that meet within the limits: brought together they fit
pub record Meeting (a b : Operand) : Type 0 where
  pub left : Denominator a.denominator
  pub right : Denominator b.denominator
  pub left_fits : Fits 48 (brought (common a b) a)
  pub right_fits : Fits 48 (brought (common a b) b)

-- what acceptance tells of the operands of a row
abbrev pub Ready : Kind → References Operand → Type 0
Ready BooleanConstant of = Unit {0}
Ready BooleanUnknown of = Unit {0}
Ready NaturalUnknown of = Unit {0}
Ready IntegerUnknown of = Unit {0}
Ready NumberConstant of = Unit {0}
Ready Not of = Unit {0}
Ready And of = Unit {0}
Ready Or of = Unit {0}
Ready Implies of = Unit {0}
Ready Iff of = Unit {0}
Ready Sum of = Meeting of.x of.y
Ready Difference of = Meeting of.x of.y
Ready Product of = Fits 48 (of.x.numerator *ℤ of.y.numerator)
Ready Choice of = Meeting of.y of.z
Ready Greater of = Meeting of.x of.y
Ready Equal of = Meeting of.x of.y
