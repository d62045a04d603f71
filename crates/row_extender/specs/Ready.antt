-- What a row's gates hold at its operands, and what acceptance tells of these. Assumes nothing.
use Rattle.std.specs.Prelude.{◌≡◌, Bool, List, ℕ, zero, suc, ℤ}
use Rattle.sheet.specs.declared.Kind.{Kind}
use Rattle.sheet.specs.declared.Kind.TheVariants.{BooleanConstant, BooleanUnknown, NaturalUnknown, IntegerUnknown, NumberConstant}
use Rattle.sheet.specs.declared.Kind.TheVariants.{Not, And, Or, Implies, Iff, Sum, Difference, Product, Choice, Greater, Equal}
use Rattle.sheet.specs.declared.Fields.{Fields}
use Rattle.sheet.specs.declared.References.{References}
use Rattle.sheet.specs.Values.{Value, boolean}
use Rattle.trace.specs.Traces.{trace_by}
use Rattle.number_extender.specs.declared.Operand.{Operand}
use Rattle.number_extender.specs.Operands.{is_true, number, IsNumber, Meeting}

-- an operand of sort 0 is a Boolean, of sort 1 a number
abbrev pub of_sort : (sort : ℕ) → Operand → Value
of_sort zero o = boolean (is_true o)
of_sort (suc s) o = number o

abbrev pub value_of : Operand → Value
value_of o = of_sort o.record.sort o

-- where the rows x, y and z are these operands
unfoldable pub trace_over : Fields → References Operand → (v : ℤ) → List Bool
trace_over f of v = trace_by f.kind f.p of.x.record of.y.record of.z.record (value_of of.x) (value_of of.y) (value_of of.z) v

abbrev pub IsBoolean : Operand → Type 0
IsBoolean o = o.record.sort ≡ 0

abbrev pub Ready : Kind → References Operand → Type 0
Ready BooleanConstant of = Unit {0}
Ready BooleanUnknown of = Unit {0}
Ready NaturalUnknown of = Unit {0}
Ready IntegerUnknown of = Unit {0}
Ready NumberConstant of = Unit {0}
Ready Not of = Unit {0}
Ready And of = IsBoolean of.x × IsBoolean of.y
Ready Or of = IsBoolean of.x × IsBoolean of.y
Ready Implies of = IsBoolean of.x × IsBoolean of.y
Ready Iff of = IsBoolean of.x × IsBoolean of.y
Ready Sum of = Meeting of.x of.y
Ready Difference of = Meeting of.x of.y
Ready Product of = IsNumber of.x × IsNumber of.y
Ready Choice of = IsBoolean of.x × Meeting of.y of.z
Ready Greater of = Meeting of.x of.y
Ready Equal of = Meeting of.x of.y
