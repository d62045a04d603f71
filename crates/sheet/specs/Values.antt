-- "Values": what a row is at chosen values, by document 000's Definitions 1 and 3. No fraction is ever cancelled. Assumes nothing.
use Rattle.std.specs.Prelude.{◌≡◌, Bool, true, false, not, ◌&&◌, ◌||◌, List, [], ◌∷◌, ◌++◌, ℕ, ◌*◌, ◌-◌, ◌/◌, ◌^◌, eqb, length, get_or, drop, ℤ, pos, neg_ℤ, ◌+ℤ◌, ◌-ℤ◌, ◌*ℤ◌}
use Rattle.std.specs.Bool.{beq}
use Rattle.std.specs.Int.Signed.{lt_z, le_z}
use Rattle.whole.specs.Tests.{if◌then◌otherwise◌, eq_z}
use Rattle.whole.specs.Bits.{bit}
use Rattle.whole.specs.Divisors.{lcm}
use Rattle.sheet.specs.declared.Kind.{Kind}
use Rattle.sheet.specs.declared.Kind.TheVariants.{BooleanConstant, BooleanUnknown, NaturalUnknown, IntegerUnknown, NumberConstant, Not, And, Or, Implies, Iff, Sum, Difference, Product, Choice, Greater, Equal}
use Rattle.sheet.specs.declared.Fields.{Fields}
use Rattle.sheet.specs.Rows.{constant_in, Uses, a_flag, a_boolean, a_natural, an_integer, a_constant, the_rows, uses, is_unknown}

-- a truth, or a numerator over a positive denominator
pub data Value : Type 0 where
  boolean : Bool → Value
  fraction : (numerator : ℤ) (denominator : ℕ) → Value

-- what an accepted table never asks of the other sort is false, or a Boolean's 0 or 1 over 1
abbrev pub truth_of : Value → Bool
truth_of (boolean b) = b
truth_of (fraction n d) = false

abbrev pub numerator : Value → ℤ
numerator (boolean b) = pos (bit b)
numerator (fraction n d) = n

abbrev pub denominator : Value → ℕ
denominator (boolean b) = 1
denominator (fraction n d) = d

-- the least common multiple of two numbers' denominators, and a number's numerator expanded to a denominator
abbrev pub shared : Value → Value → ℕ
shared a b = lcm (denominator a) (denominator b)

abbrev pub over : (d : ℕ) → Value → ℤ
over d a = numerator a *ℤ pos (d / denominator a)

-- a, b and c are the values of the rows x, y and z; v is the value chosen for an unknown
abbrev pub value_by : Kind → (p x y z : ℕ) → (a b c : Value) → (v : ℤ) → Value
value_by BooleanConstant p x y z a b c v = boolean (eqb x 1)
value_by BooleanUnknown p x y z a b c v = boolean (eq_z v (pos 1))
value_by NaturalUnknown p x y z a b c v = fraction v z
value_by IntegerUnknown p x y z a b c v = fraction v z
value_by NumberConstant p x y z a b c v = fraction (constant_in x y) z
value_by Not p x y z a b c v = boolean (not (truth_of a))
value_by And p x y z a b c v = boolean (truth_of a && truth_of b)
value_by Or p x y z a b c v = boolean (truth_of a || truth_of b)
value_by Implies p x y z a b c v = boolean (not (truth_of a) || truth_of b)
value_by Iff p x y z a b c v = boolean (beq (truth_of a) (truth_of b))
value_by Sum p x y z a b c v = fraction (over (shared a b) a +ℤ over (shared a b) b) (shared a b)
value_by Difference p x y z a b c v = fraction (over (shared a b) a -ℤ over (shared a b) b) (shared a b)
value_by Product p x y z a b c v = fraction (numerator a *ℤ numerator b) (denominator a * denominator b)
value_by Choice p x y z a b c v = fraction (if truth_of a then over (shared b c) b otherwise over (shared b c) c) (shared b c)
value_by Greater p x y z a b c v = boolean (lt_z (over (shared a b) b) (over (shared a b) a))
value_by Equal p x y z a b c v = boolean (eq_z (over (shared a b) a) (over (shared a b) b))

abbrev pub value_at : List Value → ℕ → Value
value_at values x = get_or values x (boolean false)

unfoldable pub row_val : (earlier : List Value) → Fields → ℤ → Value
row_val earlier f v = value_by f.kind f.p f.x f.y f.z (value_at earlier f.x) (value_at earlier f.y) (value_at earlier f.z) v

-- the values of all rows, after those of earlier ones; the values chosen are those of the unknowns, in row order
abbrev pub values_from : List Value → List Fields → List ℤ → List Value
values_from earlier [] vs = earlier
values_from earlier (f ∷ rows) vs = values_from (earlier ++ row_val earlier f (get_or vs 0 (pos 0)) ∷ []) rows (drop (bit (is_unknown (uses f.kind))) vs)

unfoldable pub row_values : List Fields → List ℤ → List Value
row_values rows vs = values_from [] rows vs

-- the unknowns, in row order
abbrev pub unknowns : List Fields → List Fields
unknowns [] = []
unknowns (f ∷ rows) = if is_unknown (uses f.kind) then f ∷ unknowns rows otherwise unknowns rows

-- within the declared bits; a Boolean is 0 or 1
abbrev pub in_bits : Uses → (p : ℕ) → ℤ → Bool
in_bits a_flag p v = true
in_bits a_boolean p v = eq_z v (pos 0) || eq_z v (pos 1)
in_bits a_natural p v = le_z (pos 0) v && lt_z v (pos (2 ^ p))
in_bits an_integer p v = le_z (neg_ℤ (pos (2 ^ (p - 1)))) v && lt_z v (pos (2 ^ (p - 1)))
in_bits a_constant p v = true
in_bits (the_rows sorts) p v = true

abbrev pub each_in_bits : List Fields → List ℤ → List Bool
each_in_bits [] vs = []
each_in_bits (f ∷ fs) [] = []
each_in_bits (f ∷ fs) (v ∷ vs) = in_bits (uses f.kind) f.p v ∷ each_in_bits fs vs

abbrev pub every : List Bool → Bool
every [] = true
every (b ∷ bs) = b && every bs

-- values for the unknowns of these rows, each within its declared bits
pub record Within (rows : List Fields) (vs : List ℤ) : Type 0 where
  pub number : length vs ≡ length (unknowns rows)
  pub inside : every (each_in_bits (unknowns rows) vs) ≡ true

-- chosen values, the one premise of all that is promised of values: what evaluating and extending take, and what decoding gives
pub record Chosen (rows : List Fields) (vs : List ℤ) : Type 0 where
  pub within : Within rows vs
