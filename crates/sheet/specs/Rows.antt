-- "The table": what a row's eight bytes say, or refusal 3 or 4; the rows of a table. Assumes nothing.
use Rattle.std.specs.Prelude.{Result, Ok, Err, Bool, true, false, ◌&&◌, List, [], ◌∷◌, ℕ, zero, suc, ◌+◌, ◌*◌, ◌-◌, eqb, ltb, length, get_or, take, drop, ℤ, pos, negsuc}
use Rattle.whole.specs.Tests.{if◌then◌otherwise◌}
use Rattle.sheet.specs.declared.Kind.{Kind}
use Rattle.sheet.specs.declared.Kind.TheVariants.{BooleanConstant, BooleanUnknown, NaturalUnknown, IntegerUnknown, NumberConstant, Not, And, Or, Implies, Iff, Sum, Difference, Product, Choice, Greater, Equal}
use Rattle.sheet.specs.declared.Fields.{Fields}
use Rattle.sheet.specs.declared.Reason.{Reason}
use Rattle.sheet.specs.declared.Reason.TheVariants.{UnknownKind, UnusedField}

-- the kind that a byte names, or refusal 3
unfoldable pub named : ℕ → Result Kind Reason
named k =
    if eqb k 0x00 then Ok BooleanConstant otherwise
    if eqb k 0x01 then Ok BooleanUnknown otherwise
    if eqb k 0x02 then Ok NaturalUnknown otherwise
    if eqb k 0x03 then Ok IntegerUnknown otherwise
    if eqb k 0x04 then Ok NumberConstant otherwise
    if eqb k 0x10 then Ok Not otherwise
    if eqb k 0x11 then Ok And otherwise
    if eqb k 0x12 then Ok Or otherwise
    if eqb k 0x13 then Ok Implies otherwise
    if eqb k 0x14 then Ok Iff otherwise
    if eqb k 0x20 then Ok Sum otherwise
    if eqb k 0x21 then Ok Difference otherwise
    if eqb k 0x22 then Ok Product otherwise
    if eqb k 0x23 then Ok Choice otherwise
    if eqb k 0x30 then Ok Greater otherwise
    if eqb k 0x31 then Ok Equal otherwise
    Err UnknownKind

-- the table's third column: x is 0 or 1; an unknown; a constant; or x, y, z name earlier rows of these sorts, 0 Boolean, 1 number
pub data Uses : Type 0 where
  a_flag a_boolean a_natural an_integer a_constant : Uses
  the_rows : (sorts : List ℕ) → Uses

abbrev pub uses : Kind → Uses
uses BooleanConstant = a_flag
uses BooleanUnknown = a_boolean
uses NaturalUnknown = a_natural
uses IntegerUnknown = an_integer
uses NumberConstant = a_constant
uses Not = the_rows (0 ∷ [])
uses And = the_rows (0 ∷ 0 ∷ [])
uses Or = the_rows (0 ∷ 0 ∷ [])
uses Implies = the_rows (0 ∷ 0 ∷ [])
uses Iff = the_rows (0 ∷ 0 ∷ [])
uses Sum = the_rows (1 ∷ 1 ∷ [])
uses Difference = the_rows (1 ∷ 1 ∷ [])
uses Product = the_rows (1 ∷ 1 ∷ [])
uses Choice = the_rows (0 ∷ 1 ∷ 1 ∷ [])
uses Greater = the_rows (1 ∷ 1 ∷ [])
uses Equal = the_rows (1 ∷ 1 ∷ [])

-- the fields without a use: each must be zero
abbrev pub unused : Uses → (p x y z : ℕ) → List ℕ
unused a_flag p x y z = p ∷ y ∷ z ∷ []
unused a_boolean p x y z = p ∷ x ∷ y ∷ z ∷ []
unused a_natural p x y z = x ∷ y ∷ []
unused an_integer p x y z = x ∷ y ∷ []
unused a_constant p x y z = p ∷ []
unused (the_rows sorts) p x y z = p ∷ drop (length sorts) (x ∷ y ∷ z ∷ [])

abbrev pub all_zero : List ℕ → Bool
all_zero [] = true
all_zero (n ∷ ns) = eqb n 0 && all_zero ns

-- two bytes, most significant first
abbrev pub word_at : List ℕ → ℕ → ℕ
word_at row i = get_or row i 0 * 256 + get_or row (i + 1) 0

abbrev pub fields : List ℕ → Kind → Fields
fields row k = record { kind = k; p = get_or row 1 0; x = word_at row 2; y = word_at row 4; z = word_at row 6 }

-- a row's fields, or refusal 3 or 4
abbrev pub Reading : Type 0
Reading = Result Fields Reason

abbrev pub used : Fields → Reading
used f = if all_zero (unused (uses f.kind) f.p f.x f.y f.z) then Ok f otherwise Err UnusedField

abbrev pub of_kind : List ℕ → Result Kind Reason → Reading
of_kind row (Err reason) = Err reason
of_kind row (Ok k) = used (fields row k)

unfoldable pub read_row : List ℕ → Reading
read_row row = of_kind row (named (get_or row 0 0))

-- the first n rows of a table; every row of an accepted one is read
abbrev pub and_rows : Reading → List Fields → List Fields
and_rows (Ok f) rows = f ∷ rows
and_rows (Err reason) rows = rows

unfoldable pub rows_of : (n : ℕ) → List ℕ → List Fields
rows_of zero bytes = []
rows_of (suc n) bytes = and_rows (read_row (take 8 bytes)) (rows_of n (drop 8 bytes))

-- kind 04: x and y together, a 32-bit two's complement numerator
abbrev pub constant_in : (x y : ℕ) → ℤ
constant_in x y = signed (x * 65536 + y)
  where
    signed : ℕ → ℤ
    signed n = if ltb n 0x8000_0000 then pos n otherwise negsuc (0xffff_ffff - n)

-- kinds 01, 02 and 03 are the unknowns
abbrev pub is_unknown : Uses → Bool
is_unknown a_flag = false
is_unknown a_boolean = true
is_unknown a_natural = true
is_unknown an_integer = true
is_unknown a_constant = false
is_unknown (the_rows sorts) = false
