-- "Refusal numbers" 11 to 19 and 22: each call's refusals in their order, and what then remains in each lent buffer. Assumes nothing.
use Rattle.std.specs.Prelude.{Ok, Err, Bool, true, false, not, List, [], ◌∷◌, ◌++◌, map, ℕ, ◌+◌, ◌*◌, ◌-◌, eqb, ltb, leb, length, take, drop, ℤ}
use Rattle.whole.specs.Bits.{bit}
use Rattle.circuit.specs.Literals.{Assignment, clause_true}
use Rattle.sheet.specs.declared.Record.{Record}
use Rattle.sheet.specs.declared.Reason.{Reason}
use Rattle.sheet.specs.declared.Reason.TheVariants.{FewRecords, ShortMap, FewSlots, ValueCount, ValueOutside, ModelLength, NotABit, ShortBuffer, FalseClause, NoSuchRow}
use Rattle.sheet.specs.Values.{numerator, truth_of, value_at, row_values, unknowns, each_in_bits}
use Rattle.sheet.specs.Acceptance.{refusal_number, Outcome, refused, record_at, Sheet, accept}
use Rattle.sheet.specs.Steps.{clauses, slots_for, map_for, settings, extension}

module _ {A B : Type 0} where
  infixl 1 ◌>>=◌
  abbrev pub ◌>>=◌ : Outcome A → (A → Outcome B) → Outcome B
  Err refusal >>= f = Err refusal
  Ok a >>= f = f a

  infixl 1 ◌>>◌
  abbrev pub ◌>>◌ : Outcome A → Outcome B → Outcome B
  Err refusal >> b = Err refusal
  Ok a >> b = b

  infixl 1 ◌giving◌
  abbrev pub ◌giving◌ : Outcome A → (A → B) → Outcome B
  o giving f = o >>= λ a. Ok (f a)

infix 3 refuse◌at◌if◌
abbrev pub refuse◌at◌if◌ : Reason → (place : ℕ) → Bool → Outcome (Unit {0})
refuse◌at◌if◌ reason place true = refused reason place
refuse◌at◌if◌ reason place false = Ok tt

-- a buffer too short: the place is the length needed
infix 3 refuse◌unless◌fit◌
abbrev pub refuse◌unless◌fit◌ : Reason → (needed room : ℕ) → Outcome (Unit {0})
refuse◌unless◌fit◌ reason needed room = refuse reason at needed if ltb room needed

-- the first that is false, `from` the number of the first
abbrev pub false_at : ℕ → List Bool → ℕ
false_at n [] = n
false_at n (true ∷ bs) = false_at (n + 1) bs
false_at n (false ∷ bs) = n

infix 3 refuse◌counting◌unless◌
abbrev pub refuse◌counting◌unless◌ : Reason → (from : ℕ) → List Bool → Outcome (Unit {0})
refuse◌counting◌unless◌ reason from bs = refuse reason at false_at from bs if ltb (false_at from bs) (from + length bs)

abbrev pub row_count : Sheet → ℕ
row_count sheet = length sheet.records

abbrev pub unknown_count : Sheet → ℕ
unknown_count sheet = length (unknowns sheet.rows)

unfoldable pub checking : (table : List ℕ) (record_room : ℕ) → Outcome Sheet
checking table record_room = do
  sheet ← accept table
  refuse FewRecords unless row_count sheet fit record_room
  Ok sheet

unfoldable pub writing : (table : List ℕ) (record_room map_room slot_room : ℕ) → Outcome Sheet
writing table record_room map_room slot_room = do
  sheet ← checking table record_room
  refuse ShortMap unless 48 * row_count sheet fit map_room
  refuse FewSlots unless sheet.counts.slots fit slot_room
  Ok sheet

-- a row's clauses: the part of the slots that is the row's
unfoldable pub row_clauses : (table : List ℕ) (slot_room row : ℕ) → Outcome Record
row_clauses table slot_room row = do
  sheet ← accept table
  refuse FewSlots unless sheet.counts.slots fit slot_room
  refuse NoSuchRow at row_count sheet if leb (row_count sheet) row
  Ok (record_at sheet.records row)

-- evaluating needs a result for each row, extending a byte for each variable
unfoldable pub choosing : (table : List ℕ) (values : List ℤ) → Outcome Sheet
choosing table values = do
  sheet ← accept table
  refuse ValueCount at unknown_count sheet if not (eqb (length values) (unknown_count sheet))
  refuse ValueOutside counting 0 unless each_in_bits (unknowns sheet.rows) values
  Ok sheet

unfoldable pub evaluating : (table : List ℕ) (values : List ℤ) (result_room : ℕ) → Outcome Sheet
evaluating table values result_room = do
  sheet ← choosing table values
  refuse ShortBuffer unless row_count sheet fit result_room
  Ok sheet

unfoldable pub extending : (table : List ℕ) (values : List ℤ) (model_room : ℕ) → Outcome Sheet
extending table values model_room = do
  sheet ← choosing table values
  refuse ShortBuffer unless sheet.counts.variables fit model_room
  Ok sheet

-- a model's bytes as an assignment
abbrev pub assigned : List ℕ → Assignment
assigned model = map (λ b. eqb b 1) model

-- decoding, up to 18 and whole: 19 leaves the records, the map and the slots as writing leaves them
unfoldable pub decodable : (table : List ℕ) (record_room map_room slot_room : ℕ) (model : List ℕ) (value_room : ℕ) → Outcome Sheet
decodable table record_room map_room slot_room model value_room = do
  sheet ← writing table record_room map_room slot_room
  refuse ModelLength at sheet.counts.variables if not (eqb (length model) sheet.counts.variables)
  refuse NotABit counting 0 unless map (λ b. ltb b 2) model
  refuse ShortBuffer unless unknown_count sheet fit value_room
  Ok sheet

unfoldable pub decoding : (table : List ℕ) (record_room map_room slot_room : ℕ) (model : List ℕ) (value_room : ℕ) → Outcome Sheet
decoding table record_room map_room slot_room model value_room = do
  sheet ← decodable table record_room map_room slot_room model value_room
  refuse FalseClause counting 1 unless map (clause_true (assigned model)) (clauses sheet.rows)
  Ok sheet

-- what remains in a lent buffer: at a refusal what was there, else what is written, and the tail behind it
module _ {A B : Type 0} where
  unfoldable pub left : Outcome A → (A → List B) → List B → List B
  left (Err refusal) written buffer = buffer
  left (Ok a) written buffer = written a ++ drop (length (written a)) buffer

-- checking fills the records; writing fills the literal map and the slots too
abbrev pub sheet_records : Sheet → List Record
sheet_records sheet = sheet.records

abbrev pub sheet_map : Sheet → List ℤ
sheet_map sheet = map_for sheet.rows

abbrev pub sheet_slots : Sheet → List ℤ
sheet_slots sheet = slots_for sheet.rows

-- evaluating writes every row's numerator, extending a byte a variable, decoding the unknowns' numerators
abbrev pub results_of : List ℤ → Sheet → List ℤ
results_of values sheet = map numerator (row_values sheet.rows values)

abbrev pub model_of : List ℤ → Sheet → List ℕ
model_of values sheet = map bit (extension sheet.rows values)

abbrev pub settings_of : List ℕ → Sheet → List ℤ
settings_of model sheet = settings sheet (assigned model)

-- the constraint is the last row
unfoldable pub constraint : Sheet → List ℤ → Bool
constraint sheet values = truth_of (value_at (row_values sheet.rows values) (length sheet.rows - 1))

-- the part of the slots that is a row's, empty at a refusal; and the two lent numbers, both 0 on success
unfoldable pub part : Outcome Record → List ℤ → List ℤ
part (Err refusal) slots = []
part (Ok r) slots = take r.slots (drop r.first slots)

module _ {A : Type 0} where
  abbrev pub number_of : Outcome A → ℕ
  number_of (Err refusal) = refusal_number refusal.reason
  number_of (Ok a) = 0

  abbrev pub place_of : Outcome A → ℕ
  place_of (Err refusal) = refusal.place
  place_of (Ok a) = 0

-- an answer that says no more than that the call is done
module _ {A : Type 0} where
  abbrev pub done : Outcome A → Outcome (Unit {0})
  done o = o >> Ok tt
