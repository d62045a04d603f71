-- "Widths" and refusals 1 to 10: a row passes with its record or stops with its refusal; a table is accepted or refused at a
-- place. The order of the refusals is the order of the lines. Assumes nothing.
use Rattle.std.specs.Prelude.{Result, Ok, Err, Bool, true, false, not, ◌||◌, List, [], ◌∷◌, ◌++◌, ℕ, zero, suc, ◌+◌, ◌*◌, ◌-◌, ◌/◌, ◌%◌, max, eqb, ltb, leb, length, get_or, take, drop}
use Rattle.whole.specs.Tests.{if◌then◌otherwise◌}
use Rattle.whole.specs.Bits.{fewest}
use Rattle.whole.specs.Divisors.{lcm}
use Rattle.circuit.specs.declared.Counts.{Counts}
use Rattle.circuit.specs.Counting.{◌⊕◌, times, nothing, an_unknown, an_and, a_xor, a_mux, adding_bit, ordering_bit, matching_bit, a_product, expanded_width, an_expansion, the_first, the_last}
use Rattle.sheet.specs.declared.Kind.{Kind}
use Rattle.sheet.specs.declared.Kind.TheVariants.{BooleanConstant, BooleanUnknown, NaturalUnknown, IntegerUnknown, NumberConstant, Not, And, Or, Implies, Iff, Sum, Difference, Product, Choice, Greater, Equal}
use Rattle.sheet.specs.declared.Fields.{Fields}
use Rattle.sheet.specs.declared.Record.{Record}
use Rattle.sheet.specs.declared.Passed.{Passed}
use Rattle.sheet.specs.declared.Reason.{Reason}
use Rattle.sheet.specs.declared.Reason.TheVariants.{WrongLength, TooManyRows, UnknownKind, UnusedField, OutOfRange, NotEarlier, WrongSort, LargeDenominator, TooWide, EndsInNumber, FewRecords, ShortMap, FewSlots, ValueCount, ValueOutside, ModelLength, NotABit, ShortBuffer, FalseClause, BadLine, BadClaim, NoSuchRow}
use Rattle.sheet.specs.declared.Refusal.{Refusal}
use Rattle.sheet.specs.Rows.{Reading, read_row, rows_of, constant_in, Uses, a_flag, a_boolean, a_natural, an_integer, a_constant, the_rows, uses}

-- document 01's numbers
abbrev pub refusal_number : Reason → ℕ
refusal_number WrongLength = 1
refusal_number TooManyRows = 2
refusal_number UnknownKind = 3
refusal_number UnusedField = 4
refusal_number OutOfRange = 5
refusal_number NotEarlier = 6
refusal_number WrongSort = 7
refusal_number LargeDenominator = 8
refusal_number TooWide = 9
refusal_number EndsInNumber = 10
refusal_number FewRecords = 11
refusal_number ShortMap = 12
refusal_number FewSlots = 13
refusal_number ValueCount = 14
refusal_number ValueOutside = 15
refusal_number ModelLength = 16
refusal_number NotABit = 17
refusal_number ShortBuffer = 18
refusal_number FalseClause = 19
refusal_number BadLine = 20
refusal_number BadClaim = 21
refusal_number NoSuchRow = 22

-- a constant, p or declared denominator out of range
abbrev pub outside : (least most n : ℕ) → Bool
outside least most n = ltb n least || ltb most n

abbrev pub out_of_range : Uses → (p x z : ℕ) → Bool
out_of_range a_flag p x z = ltb 1 x
out_of_range a_boolean p x z = false
out_of_range a_natural p x z = outside 1 31 p || outside 1 4096 z
out_of_range an_integer p x z = outside 1 32 p || outside 1 4096 z
out_of_range a_constant p x z = outside 1 4096 z
out_of_range (the_rows sorts) p x z = false

-- of the references x, y, z, as far as the kind has them: whether one is not earlier, whether one is of the wrong sort
abbrev pub sorts_in : Uses → List ℕ
sorts_in a_flag = []
sorts_in a_boolean = []
sorts_in a_natural = []
sorts_in an_integer = []
sorts_in a_constant = []
sorts_in (the_rows sorts) = sorts

abbrev pub some_not_earlier : (rows : ℕ) → (sorts xs : List ℕ) → Bool
some_not_earlier rows [] xs = false
some_not_earlier rows (s ∷ ss) [] = false
some_not_earlier rows (s ∷ ss) (x ∷ xs) = leb rows x || some_not_earlier rows ss xs

abbrev pub some_of_wrong_sort : (sorts : List ℕ) → List Record → Bool
some_of_wrong_sort [] rs = false
some_of_wrong_sort (s ∷ ss) [] = false
some_of_wrong_sort (s ∷ ss) (r ∷ rs) = not (eqb r.sort s) || some_of_wrong_sort ss rs

-- what a row comes to: its record's sort, width and denominator; the denominator that 8 looks at and the width that 9 looks at
-- (no expansion is wider than the sum, choice or comparison that needs it); and what it counts
pub record Plan : Type 0 where
  pub sort : ℕ
  pub width : ℕ
  pub denominator : ℕ
  pub common : ℕ
  pub widest : ℕ
  pub counts : Counts

abbrev pub boolean_plan : Counts → Plan
boolean_plan k = record { sort = 0; width = 1; denominator = 1; common = 1; widest = 1; counts = k }

abbrev pub number_plan : (width denominator : ℕ) → Counts → Plan
number_plan w d k = record { sort = 1; width = w; denominator = d; common = d; widest = w; counts = k }

-- of numbers compared at width w over the denominator d
abbrev pub comparison_plan : (w d : ℕ) → Counts → Plan
comparison_plan w d k = record { sort = 0; width = 1; denominator = 1; common = d; widest = w; counts = k }

-- the least common multiple of two rows' denominators
abbrev pub meeting : Record → Record → ℕ
meeting a b = lcm a.denominator b.denominator

-- a row's width brought to the denominator d; the larger of two rows' so brought; what bringing them counts
abbrev pub width_over : (d : ℕ) → Record → ℕ
width_over d a = expanded_width a.width (d / a.denominator)

abbrev pub larger : Record → Record → ℕ
larger a b = max (width_over (meeting a b) a) (width_over (meeting a b) b)

abbrev pub bringing : Record → Record → Counts
bringing a b = an_expansion a.width (meeting a b / a.denominator) ⊕ an_expansion b.width (meeting a b / b.denominator)

-- a, b and c are the records of the rows x, y and z
abbrev pub plan_by : Kind → (p x y z : ℕ) → (a b c : Record) → Plan
plan_by BooleanConstant p x y z a b c = boolean_plan nothing
plan_by BooleanUnknown p x y z a b c = boolean_plan (an_unknown 1)
plan_by NaturalUnknown p x y z a b c = number_plan (p + 1) z (an_unknown p)
plan_by IntegerUnknown p x y z a b c = number_plan p z (an_unknown p)
plan_by NumberConstant p x y z a b c = number_plan (fewest (constant_in x y)) z nothing
plan_by Not p x y z a b c = boolean_plan nothing
plan_by And p x y z a b c = boolean_plan an_and
plan_by Or p x y z a b c = boolean_plan an_and
plan_by Implies p x y z a b c = boolean_plan an_and
plan_by Iff p x y z a b c = boolean_plan a_xor
plan_by Sum p x y z a b c = number_plan (larger a b + 1) (meeting a b) (bringing a b ⊕ times (larger a b + 1) adding_bit)
plan_by Difference p x y z a b c = number_plan (larger a b + 1) (meeting a b) (bringing a b ⊕ times (larger a b + 1) adding_bit)
plan_by Product p x y z a b c = number_plan (a.width + b.width) (a.denominator * b.denominator) (a_product (a.width + b.width))
plan_by Choice p x y z a b c = number_plan (larger b c) (meeting b c) (bringing b c ⊕ times (larger b c) a_mux)
plan_by Greater p x y z a b c = comparison_plan (larger a b) (meeting a b) (bringing a b ⊕ times (larger a b) ordering_bit)
plan_by Equal p x y z a b c = comparison_plan (larger a b) (meeting a b) (bringing a b ⊕ times (larger a b) matching_bit)

-- a row passes with its record and what it counts, or stops with its refusal
abbrev pub Verdict : Type 0
Verdict = Result Passed Reason

infixr 5 stop◌if◌else◌
abbrev pub stop◌if◌else◌ : Reason → Bool → Verdict → Verdict
stop◌if◌else◌ reason true v = Err reason
stop◌if◌else◌ reason false v = v

-- a row that passes has its first slot at `first`
abbrev pub record_by : (first : ℕ) → Plan → Record
record_by first m = record { sort = m.sort; width = m.width; denominator = m.denominator; first = first; slots = m.counts.slots }

abbrev pub judge_by : (rows first : ℕ) → Kind → (p x y z : ℕ) → (a b c : Record) → Verdict
judge_by rows first k p x y z a b c =
    stop OutOfRange if out_of_range (uses k) p x z else
    stop NotEarlier if some_not_earlier rows (sorts_in (uses k)) (x ∷ y ∷ z ∷ []) else
    stop WrongSort if some_of_wrong_sort (sorts_in (uses k)) (a ∷ b ∷ c ∷ []) else
    stop LargeDenominator if ltb 4096 (plan_by k p x y z a b c).common else
    stop TooWide if ltb 48 (plan_by k p x y z a b c).widest else
    Ok (record { row = record_by first (plan_by k p x y z a b c); counts = (plan_by k p x y z a b c).counts })

-- what stands for a row that is not earlier, which 6 refuses first
abbrev pub missing : Record
missing = record { sort = 0; width = 1; denominator = 1; first = 0; slots = 0 }

abbrev pub record_at : List Record → ℕ → Record
record_at records x = get_or records x missing

unfoldable pub judge : (earlier : List Record) (first : ℕ) → Reading → Verdict
judge earlier first (Err reason) = Err reason
judge earlier first (Ok f) =
    judge_by (length earlier) first f.kind f.p f.x f.y f.z (record_at earlier f.x) (record_at earlier f.y) (record_at earlier f.z)

-- what was asked for; or refused, with the place
abbrev pub Outcome : Type 0 → Type 0
Outcome A = Result A Refusal

module _ {A : Type 0} where
  abbrev pub refused : Reason → (place : ℕ) → Outcome A
  refused reason place = Err (record { reason = reason; place = place })

-- an accepted table: its rows, their records, and what it counts, both units included
pub record Sheet : Type 0 where
  pub rows : List Fields
  pub records : List Record
  pub counts : Counts

-- the last row must be Boolean
abbrev pub ending : List ℕ → List Record → Counts → Outcome Sheet
ending table records so =
    if eqb (record_at records (length records - 1)).sort 1 then refused EndsInNumber (length records - 1) otherwise
    Ok (record { rows = rows_of (length records) table; records = records; counts = so ⊕ the_last })

abbrev pub onward : Verdict → List Record → Counts → (List Record → Counts → Outcome Sheet) → Outcome Sheet
onward (Err reason) earlier so rest = refused reason (length earlier)
onward (Ok passed) earlier so rest = rest (earlier ++ passed.row ∷ []) (so ⊕ passed.counts)

-- so many rows left, in the bytes left; the rows before counted so
unfoldable pub walk : (table : List ℕ) → List Record → Counts → (left : ℕ) → List ℕ → Outcome Sheet
walk table earlier so zero bytes = ending table earlier so
walk table earlier so (suc left) bytes = onward (judge earlier so.slots (read_row (take 8 bytes))) earlier so (λ rs k. walk table rs k left (drop 8 bytes))

unfoldable pub accept : List ℕ → Outcome Sheet
accept table =
    if eqb (length table) 0 then refused WrongLength 0 otherwise
    if not (eqb (length table % 8) 0) then refused WrongLength 0 otherwise
    if ltb 256 (length table / 8) then refused TooManyRows 0 otherwise
    walk table [] the_first (length table / 8) table
