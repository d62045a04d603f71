-- "Numbering and clauses": rows to clauses, the literal map and the slots; how an assignment reads, and the assignment that
-- extends chosen values. Assumes nothing.
use Rattle.std.specs.Prelude.{Bool, List, [], ◌∷◌, ◌++◌, map, ℕ, ◌*◌, ◌-◌, ◌/◌, eqb, length, get_or, drop, replicate, ℤ, pos}
use Rattle.whole.specs.Tests.{if◌then◌otherwise◌, eq_z}
use Rattle.whole.specs.Bits.{bit, to_int, bits_of}
use Rattle.whole.specs.Divisors.{lcm}
use Rattle.circuit.specs.Literals.{Lit, neg, falsity, known, Clause, slot, slots_of, Assignment, lit_true}
use Rattle.circuit.specs.Gates.{fixed, free, and, xor}
use Rattle.circuit.specs.Circuits.{Circuit, ret, make, ◌>>=◌, gates, out, clauses_from, run}
use Rattle.circuit.specs.Numbers.{constant, unknown, sum, difference, product, expansion, greater, equal, choice}
use Rattle.sheet.specs.declared.Kind.{Kind}
use Rattle.sheet.specs.declared.Kind.TheVariants.{BooleanConstant, BooleanUnknown, NaturalUnknown, IntegerUnknown, NumberConstant, Not, And, Or, Implies, Iff, Sum, Difference, Product, Choice, Greater, Equal}
use Rattle.sheet.specs.declared.Fields.{Fields}
use Rattle.sheet.specs.declared.Record.{Record}
use Rattle.sheet.specs.Rows.{constant_in, Uses, a_flag, a_boolean, a_natural, an_integer, a_constant, the_rows, uses, is_unknown}
use Rattle.sheet.specs.Values.{Value, boolean, fraction, numerator}
use Rattle.sheet.specs.Acceptance.{Sheet}

-- a row's literals, lowest first, and its denominator; a Boolean has one literal
pub record Cell : Type 0 where
  pub literals : List Lit
  pub denominator : ℕ

abbrev pub cell : List Lit → ℕ → Cell
cell ls d = record { literals = ls; denominator = d }

abbrev pub boolean_cell : Circuit Lit → Circuit Cell
boolean_cell c = c >>= λ l. ret (cell (l ∷ []) 1)

abbrev pub number_cell : (denominator : ℕ) → Circuit (List Lit) → Circuit Cell
number_cell d c = c >>= λ ls. ret (cell ls d)

abbrev pub negated : Circuit Lit → Circuit Lit
negated c = c >>= λ l. ret (neg l)

-- a natural's sign is false
abbrev pub with_sign : Circuit (List Lit) → Circuit (List Lit)
with_sign c = c >>= λ ls. ret (ls ++ falsity ∷ [])

abbrev pub lit : Cell → Lit
lit a = get_or a.literals 0 falsity

-- the least common multiple of two numbers' denominators
abbrev pub least : Cell → Cell → ℕ
least a b = lcm a.denominator b.denominator

-- two numbers brought to one denominator, x before y before z
abbrev pub brought : {A : Type 0} → (a b : Cell) → (List Lit → List Lit → Circuit A) → Circuit A
brought a b made = do
  xs ← expansion (least a b / a.denominator) a.literals
  ys ← expansion (least a b / b.denominator) b.literals
  made xs ys

-- a, b and c are the cells of the rows x, y and z
abbrev pub steps_by : Kind → (p x y z : ℕ) → (a b c : Cell) → Circuit Cell
steps_by BooleanConstant p x y z a b c = boolean_cell (ret (known (eqb x 1)))
steps_by BooleanUnknown p x y z a b c = boolean_cell (make free)
steps_by NaturalUnknown p x y z a b c = number_cell z (with_sign (unknown p))
steps_by IntegerUnknown p x y z a b c = number_cell z (unknown p)
steps_by NumberConstant p x y z a b c = number_cell z (ret (constant (constant_in x y)))
steps_by Not p x y z a b c = boolean_cell (ret (neg (lit a)))
steps_by And p x y z a b c = boolean_cell (make (and (lit a) (lit b)))
steps_by Or p x y z a b c = boolean_cell (negated (make (and (neg (lit a)) (neg (lit b)))))
steps_by Implies p x y z a b c = boolean_cell (negated (make (and (lit a) (neg (lit b)))))
steps_by Iff p x y z a b c = boolean_cell (negated (make (xor (lit a) (lit b))))
steps_by Sum p x y z a b c = number_cell (least a b) (brought a b sum)
steps_by Difference p x y z a b c = number_cell (least a b) (brought a b difference)
steps_by Product p x y z a b c = number_cell (a.denominator * b.denominator) (product a.literals b.literals)
steps_by Choice p x y z a b c = number_cell (least b c) (brought b c (choice (lit a)))
steps_by Greater p x y z a b c = boolean_cell (brought a b greater)
steps_by Equal p x y z a b c = boolean_cell (brought a b equal)

abbrev pub cell_at : List Cell → ℕ → Cell
cell_at cs x = get_or cs x (cell (falsity ∷ []) 1)

unfoldable pub row_steps : (earlier : List Cell) → Fields → Circuit Cell
row_steps earlier f = steps_by f.kind f.p f.x f.y f.z (cell_at earlier f.x) (cell_at earlier f.y) (cell_at earlier f.z)

-- rows are done in order, after variable 1
abbrev pub steps_from : List Cell → List Fields → Circuit (List Cell)
steps_from earlier [] = ret earlier
steps_from earlier (f ∷ rows) = do
  c ← row_steps earlier f
  steps_from (earlier ++ c ∷ []) rows

unfoldable pub steps : List Fields → Circuit (List Cell)
steps rows = do
  t ← make fixed
  steps_from [] rows

unfoldable pub cells : List Fields → List Cell
cells rows = out 0 (steps rows)

-- every clause but the last, and the last: the unit of the last row
unfoldable pub clauses_but_last : List Fields → List Clause
clauses_but_last rows = clauses_from 0 (gates 0 (steps rows))

unfoldable pub last_clause : List Fields → Clause
last_clause rows = lit (cell_at (cells rows) (length rows - 1)) ∷ []

unfoldable pub clauses : List Fields → List Clause
clauses rows = clauses_but_last rows ++ last_clause rows ∷ []

unfoldable pub slots_for : List Fields → List ℤ
slots_for rows = slots_of (clauses rows)

-- the literal map: 48 places a row, its literals and then zeros
abbrev pub page : List Lit → List ℤ
page ls = map slot ls ++ replicate (48 - length ls) (pos 0)

abbrev pub pages : List Cell → List ℤ
pages [] = []
pages (c ∷ cs) = page c.literals ++ pages cs

unfoldable pub map_for : List Fields → List ℤ
map_for rows = pages (cells rows)

-- how an assignment reads a row: a truth, or two's complement over the row's denominator
abbrev pub read_as : Assignment → Record → List Lit → Value
read_as s r ls = if eqb r.sort 0 then boolean (lit_true s (get_or ls 0 falsity)) otherwise fraction (to_int (map (lit_true s) ls)) r.denominator

abbrev pub read_each : Assignment → List Record → List Cell → List Value
read_each s [] cs = []
read_each s (r ∷ rs) [] = []
read_each s (r ∷ rs) (c ∷ cs) = read_as s r c.literals ∷ read_each s rs cs

unfoldable pub read_rows : Sheet → Assignment → List Value
read_rows sheet s = read_each s sheet.records (cells sheet.rows)

-- the numerators of the unknowns, in row order
abbrev pub of_unknowns : List Fields → List Value → List ℤ
of_unknowns [] vs = []
of_unknowns (f ∷ fs) [] = []
of_unknowns (f ∷ fs) (v ∷ vs) = if is_unknown (uses f.kind) then numerator v ∷ of_unknowns fs vs otherwise of_unknowns fs vs

unfoldable pub settings : Sheet → Assignment → List ℤ
settings sheet s = of_unknowns sheet.rows (read_rows sheet s)

-- the bits that chosen values give the unknowns' variables, and the assignment that this makes
abbrev pub bits_by : Uses → (p : ℕ) → ℤ → List Bool
bits_by a_flag p v = []
bits_by a_boolean p v = eq_z v (pos 1) ∷ []
bits_by a_natural p v = bits_of p v
bits_by an_integer p v = bits_of p v
bits_by a_constant p v = []
bits_by (the_rows sorts) p v = []

abbrev pub unknown_bits : List Fields → List ℤ → List Bool
unknown_bits [] vs = []
unknown_bits (f ∷ rows) vs = bits_by (uses f.kind) f.p (get_or vs 0 (pos 0)) ++ unknown_bits rows (drop (bit (is_unknown (uses f.kind))) vs)

unfoldable pub extension : List Fields → List ℤ → Assignment
extension rows vs = run [] (gates 0 (steps rows)) (unknown_bits rows vs)
