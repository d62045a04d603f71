-- Demand 3, the two sentences for the assessor, and the counts: what is promised of an accepted table. Assumes nothing.
use Rattle.std.specs.Prelude.{Ok, ◌≡◌, true, false, List, [], ◌∷◌, ◌++◌, ℕ, ◌+◌, ◌*◌, ◌-◌, ◌/◌, ◌≤◌, ◌<◌, length, ℤ, nat_abs}
use Rattle.whole.specs.Bits.{Fits}
use Rattle.circuit.specs.Literals.{Lit, slot, slots_of, Assignment, clause_true, all_true}
use Rattle.circuit.specs.Circuits.{Circuit, ret, gates, out, clauses_from}
use Rattle.circuit.specs.Numbers.{product}
use Rattle.sheet.specs.declared.Kind.{Kind}
use Rattle.sheet.specs.declared.Kind.TheVariants.{BooleanConstant, BooleanUnknown, NaturalUnknown, IntegerUnknown, NumberConstant, Not, And, Or, Implies, Iff, Sum, Difference, Product, Choice, Greater, Equal}
use Rattle.sheet.specs.declared.Fields.{Fields}
use Rattle.sheet.specs.declared.Record.{Record}
use Rattle.sheet.specs.Values.{Value, boolean, fraction, value_at, shared, over, row_values, unknowns, Chosen}
use Rattle.sheet.specs.Acceptance.{meeting, width_over, record_at, Sheet, accept}
use Rattle.sheet.specs.Steps.{Cell, brought, cell_at, row_steps, steps, cells, clauses_but_last, last_clause, clauses, slots_for, map_for, read_rows, settings, extension}
use Rattle.sheet.specs.Calls.{unknown_count, writing, decoding, model_of, settings_of, constraint, part}

-- an assignment carries values: it meets every clause but the last, and the unknowns' literals read as these values
pub record Carries (sheet : Sheet) (values : List ℤ) (s : Assignment) : Type 0 where
  pub sized : length s ≡ sheet.counts.variables
  pub meets : all_true s (clauses_but_last sheet.rows) ≡ true
  pub reads : settings sheet s ≡ values

-- kinds 20, 21, 23, 30 and 31 bring two rows to one denominator
abbrev pub brought_by : Kind → (x y z : ℕ) → List ℕ
brought_by BooleanConstant x y z = []
brought_by BooleanUnknown x y z = []
brought_by NaturalUnknown x y z = []
brought_by IntegerUnknown x y z = []
brought_by NumberConstant x y z = []
brought_by Not x y z = []
brought_by And x y z = []
brought_by Or x y z = []
brought_by Implies x y z = []
brought_by Iff x y z = []
brought_by Sum x y z = x ∷ y ∷ []
brought_by Difference x y z = x ∷ y ∷ []
brought_by Product x y z = []
brought_by Choice x y z = y ∷ z ∷ []
brought_by Greater x y z = x ∷ y ∷ []
brought_by Equal x y z = x ∷ y ∷ []

-- a number fits the width of its record; two expanded numerators fit the widths that acceptance counts them at
abbrev pub FitsRow : Record → Value → Type 0
FitsRow r (boolean b) = Unit {0}
FitsRow r (fraction n d) = Fits r.width n

abbrev pub FitBoth : List Record → List Value → List ℕ → Type 0
FitBoth records values [] = Unit {0}
FitBoth records values (x ∷ []) = Unit {0}
FitBoth records values (x ∷ y ∷ xs) =
    Fits (width_over (meeting (record_at records x) (record_at records y)) (record_at records x)) (over (shared (value_at values x) (value_at values y)) (value_at values x))
    × Fits (width_over (meeting (record_at records x) (record_at records y)) (record_at records y)) (over (shared (value_at values x) (value_at values y)) (value_at values y))

-- row i, of fields f
pub record Wide (sheet : Sheet) (values : List Value) (i : ℕ) (f : Fields) : Type 0 where
  pub own : FitsRow (record_at sheet.records i) (value_at values i)
  pub expanded : FitBoth sheet.records values (brought_by f.kind f.x f.y f.z)

-- demand 3, for chosen values
pub record Promise (sheet : Sheet) (values : List ℤ) : Type 0 where
  -- no row's exact value, nor any expanded numerator, needs more bits than it was given
  pub wide : (before : List Fields) (f : Fields) (after : List Fields) → sheet.rows ≡ before ++ f ∷ after
      → Wide sheet (row_values sheet.rows values) (length before) f
  -- exactly one assignment carries these values and meets every clause but the last
  pub one : Carries sheet values (extension sheet.rows values)
  pub alone : (s : Assignment) → Carries sheet values s → s ≡ extension sheet.rows values
  -- each row's bits in it read as that row's exact value
  pub rows : (s : Assignment) → Carries sheet values s → read_rows sheet s ≡ row_values sheet.rows values
  -- the last clause holds exactly if the constraint is true
  pub last : (s : Assignment) → Carries sheet values s → clause_true s (last_clause sheet.rows) ≡ constraint sheet values

abbrev pub DemandThree : Type 0
DemandThree = (table : List ℕ) (sheet : Sheet) → accept table ≡ Ok sheet → (values : List ℤ) → Chosen sheet.rows values → Promise sheet values

-- "when the tool prints timings, what shows that they meet the sheet?" If decoding accepts a model, the values that it gives are
-- chosen values, each within its declared bits, and the constraint is true of them
abbrev pub SettingsMeetTheSheet : Type 0
SettingsMeetTheSheet =
    (table : List ℕ) (record_room map_room slot_room : ℕ) (model : List ℕ) (value_room : ℕ) (sheet : Sheet)
    → decoding table record_room map_room slot_room model value_room ≡ Ok sheet
    → Chosen sheet.rows (settings_of model sheet) × (constraint sheet (settings_of model sheet) ≡ true)

-- "when it finds none at those widths, what shows that none was lost on the way to the solver?" If chosen values make the
-- constraint true, decoding accepts the model that extending gives, and gives these values
abbrev pub NoneLost : Type 0
NoneLost =
    (table : List ℕ) (record_room map_room slot_room value_room : ℕ) (sheet : Sheet) → writing table record_room map_room slot_room ≡ Ok sheet → unknown_count sheet ≤ value_room
    → (values : List ℤ) → Chosen sheet.rows values → constraint sheet values ≡ true
    → (decoding table record_room map_room slot_room (model_of values sheet) value_room ≡ Ok sheet) × (settings_of (model_of values sheet) sheet ≡ values)

-- so where no assignment makes every clause true, no chosen values make the constraint true
abbrev pub NoneExists : Type 0
NoneExists =
    (table : List ℕ) (sheet : Sheet) → accept table ≡ Ok sheet
    → ((s : Assignment) → length s ≡ sheet.counts.variables → all_true s (clauses sheet.rows) ≡ false)
    → (values : List ℤ) → Chosen sheet.rows values → constraint sheet values ≡ false

-- two numbers brought to one denominator
abbrev pub both_brought : (a b : Cell) → Circuit (List Lit × List Lit)
both_brought a b = brought a b (λ xs ys. ret (xs, ys))

-- the literals of each, behind so many variables, are as many as acceptance counts it at
abbrev pub LongBoth : List Record → (made : ℕ) → List Cell → List ℕ → Type 0
LongBoth records made cs [] = Unit {0}
LongBoth records made cs (x ∷ []) = Unit {0}
LongBoth records made cs (x ∷ y ∷ xs) =
    let (left, right) = out made (both_brought (cell_at cs x) (cell_at cs y)) in
    (length left ≡ width_over (meeting (record_at records x) (record_at records y)) (record_at records x))
    × (length right ≡ width_over (meeting (record_at records x) (record_at records y)) (record_at records y))

-- a row of fields f that comes behind others: its literals are as many as its record's width; and so are, by the widths that acceptance
-- counts, those of the two numbers that it first brings together
pub record Long (sheet : Sheet) (before : List Fields) (f : Fields) : Type 0 where
  pub own : length (cell_at (cells sheet.rows) (length before)).literals ≡ (record_at sheet.records (length before)).width
  pub expanded : LongBoth sheet.records (length (gates 0 (steps before))) (cells before) (brought_by f.kind f.x f.y f.z)

-- what acceptance counts is what the steps make
pub record Counted (sheet : Sheet) : Type 0 where
  pub unknown : sheet.counts.unknowns ≡ length (unknowns sheet.rows)
  pub variables : sheet.counts.variables ≡ length (gates 0 (steps sheet.rows))
  pub clause : sheet.counts.clauses ≡ length (clauses sheet.rows)
  pub slot : sheet.counts.slots ≡ length (slots_for sheet.rows)
  pub places : length (map_for sheet.rows) ≡ 48 * length sheet.rows
  pub records : length sheet.records ≡ length sheet.rows
  -- no row has more or fewer literals than its record's width, and no expansion than acceptance gave it
  pub long : (before : List Fields) (f : Fields) (after : List Fields) → sheet.rows ≡ before ++ f ∷ after → Long sheet before f

-- the slots of a row that comes behind others: those of the gates that its steps make
abbrev pub row_slots : (before : List Fields) → Fields → List ℤ
row_slots before f =
    let made = length (gates 0 (steps before)) in
    slots_of (clauses_from made (gates made (row_steps (cells before) f)))

-- each row's part of the slots, by its record, is the row's own
abbrev pub PartsAreRows : Type 0
PartsAreRows =
    (table : List ℕ) (sheet : Sheet) → accept table ≡ Ok sheet → (before : List Fields) (f : Fields) (after : List Fields) → sheet.rows ≡ before ++ f ∷ after
    → part (Ok (record_at sheet.records (length before))) (slots_for sheet.rows) ≡ row_slots before f

abbrev pub CountsAreMade : Type 0
CountsAreMade = (table : List ℕ) (sheet : Sheet) → accept table ≡ Ok sheet → Counted sheet

-- each literal is one of the variables 1 to n, or its negation
abbrev pub Among : (n : ℕ) → List Lit → Type 0
Among n [] = Unit {0}
Among n (l ∷ ls) = (nat_abs (slot l) ≤ n) × Among n ls

-- a product of numbers whose widths together are w, their literals among n variables made before, makes 2w² - w variables and
-- (17w² - 11w)/2 clauses
abbrev pub ProductMakes : Type 0
ProductMakes =
    (n w : ℕ) (xs ys : List Lit) → 0 < n → Among n xs → Among n ys → 0 < length xs → 0 < length ys → length xs + length ys ≡ w
    → (length (gates n (product xs ys)) ≡ 2 * (w * w) - w) × (length (clauses_from n (gates n (product xs ys))) ≡ (17 * (w * w) - 11 * w) / 2)
