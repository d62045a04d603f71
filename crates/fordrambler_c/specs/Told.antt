-- What a call for C answers: a refusal's number and place, both 0 on success, and lent numbers that change on success only. ₀ marks what was
-- lent, ₁ what is there after. Assumes nothing.
use Rattle.std.specs.Prelude.{Ok, Err, Option, Some, None, ◌≡◌, true, false, List, ℕ, ◌*◌, length, ℤ}
use Rattle.whole.specs.Bits.{bit}
use Rattle.circuit.specs.declared.Counts.{Counts}
use Rattle.sheet.specs.declared.Record.{Record}
use Rattle.sheet.specs.declared.LinesFound.{LinesFound}
use Rattle.sheet.specs.Acceptance.{Outcome}
use Rattle.sheet.specs.Calls.{row_clauses, number_of, place_of}
use Rattle.sheet.specs.Relations.{Checks, Measures, Writes, Evaluates, Extends, Decodes, ReadsLines, ReadsClaim}

-- what a lent number holds then: at a refusal what it held before
module _ {A : Type 0} where
  abbrev pub held : Outcome A → (A → ℕ) → ℕ → ℕ
  held (Err refusal) says before = before
  held (Ok a) says before = says a

-- what a success says
module _ {A : Type 0} where
  abbrev pub said_in : Outcome A → Option A
  said_in (Err refusal) = None
  said_in (Ok a) = Some a

-- a table's length, 8 bytes a row
abbrev pub table_bytes : LinesFound → ℕ
table_bytes l = l.rows * 8

-- the three numbers that measuring is lent
pub record HoldsCounts (answer : Outcome Counts) (variables₀ clauses₀ slots₀ variables₁ clauses₁ slots₁ : ℕ) : Type 0 where
  pub variables : variables₁ ≡ held answer (λ c. c.variables) variables₀
  pub clauses : clauses₁ ≡ held answer (λ c. c.clauses) clauses₀
  pub slots : slots₁ ≡ held answer (λ c. c.slots) slots₀

-- where the text behind the lines begins, and 1 if an empty line ended them
pub record HoldsEnd (answer : Outcome LinesFound) (rest₀ ended₀ rest₁ ended₁ : ℕ) : Type 0 where
  pub rest : rest₁ ≡ held answer (λ l. l.rest) rest₀
  pub ended : ended₁ ≡ held answer (λ l. bit l.ended) ended₀

-- a call's relation holds of an answer, and the number and the place are the answer's
module _ {A : Type 0} where
  pub record Tells (owed : Outcome A → Type 0) (number place : ℕ) : Type 0 where
    pub answer : Outcome A
    pub owes : owed answer
    pub says : number ≡ number_of answer
    pub at : place ≡ place_of answer

-- the calls, in the header's order
abbrev pub TellsCheck : (table : List ℕ) (records₀ : List Record) (number place : ℕ) (records₁ : List Record) → Type 0
TellsCheck table records₀ number place records₁ = Tells (λ a. Checks table records₀ a records₁) number place

abbrev pub TellsMeasure : (table : List ℕ) (variables₀ clauses₀ slots₀ number place variables₁ clauses₁ slots₁ : ℕ) → Type 0
TellsMeasure table variables₀ clauses₀ slots₀ number place variables₁ clauses₁ slots₁ =
    Tells (λ m. Measures table m × HoldsCounts m variables₀ clauses₀ slots₀ variables₁ clauses₁ slots₁) number place

abbrev pub TellsWrite : (table : List ℕ) (records₀ : List Record) (map₀ slots₀ : List ℤ) (number place : ℕ) (records₁ : List Record) (map₁ slots₁ : List ℤ) → Type 0
TellsWrite table records₀ map₀ slots₀ number place records₁ map₁ slots₁ = Tells (λ a. Writes table records₀ map₀ slots₀ a records₁ map₁ slots₁) number place

-- the clauses of one row: which slots they are, by the first one's place and their count
pub record PlacesRow (table : List ℕ) (slots : List ℤ) (row first₀ count₀ number place first₁ count₁ : ℕ) : Type 0 where
  pub first : first₁ ≡ held (row_clauses table (length slots) row) (λ r. r.first) first₀
  pub count : count₁ ≡ held (row_clauses table (length slots) row) (λ r. r.slots) count₀
  pub says : number ≡ number_of (row_clauses table (length slots) row)
  pub at : place ≡ place_of (row_clauses table (length slots) row)

abbrev pub TellsEvaluate : (table : List ℕ) (values results₀ : List ℤ) (number place : ℕ) (results₁ : List ℤ) → Type 0
TellsEvaluate table values results₀ number place results₁ = Tells (λ a. Evaluates table values results₀ a results₁) number place

abbrev pub TellsExtend : (table : List ℕ) (values : List ℤ) (model₀ : List ℕ) (truth₀ number place : ℕ) (model₁ : List ℕ) (truth₁ : ℕ) → Type 0
TellsExtend table values model₀ truth₀ number place model₁ truth₁ =
    Tells (λ a. Extends table values model₀ a model₁ × (truth₁ ≡ held a bit truth₀)) number place

abbrev pub TellsDecode : (table : List ℕ) (records₀ : List Record) (map₀ slots₀ : List ℤ) (model : List ℕ) (values₀ : List ℤ) (number place : ℕ) (records₁ : List Record) (map₁ slots₁ values₁ : List ℤ) → Type 0
TellsDecode table records₀ map₀ slots₀ model values₀ number place records₁ map₁ slots₁ values₁ =
    Tells (λ a. Decodes table records₀ map₀ slots₀ model values₀ a records₁ map₁ slots₁ values₁) number place

abbrev pub TellsLines : (text table₀ : List ℕ) (bytes₀ number place : ℕ) (table₁ : List ℕ) (bytes₁ : ℕ) → Type 0
TellsLines text table₀ bytes₀ number place table₁ bytes₁ =
    Tells (λ a. ReadsLines false text table₀ a table₁ × (bytes₁ ≡ held a table_bytes bytes₀)) number place

abbrev pub TellsLinesUntilEmpty : (text table₀ : List ℕ) (bytes₀ rest₀ ended₀ number place : ℕ) (table₁ : List ℕ) (bytes₁ rest₁ ended₁ : ℕ) → Type 0
TellsLinesUntilEmpty text table₀ bytes₀ rest₀ ended₀ number place table₁ bytes₁ rest₁ ended₁ =
    Tells (λ a. ReadsLines true text table₀ a table₁ × ((bytes₁ ≡ held a table_bytes bytes₀) × HoldsEnd a rest₀ ended₀ rest₁ ended₁)) number place

abbrev pub TellsClaim : (text : List ℕ) (variables : ℕ) (model₀ : List ℕ) (claim₀ number place : ℕ) (model₁ : List ℕ) (claim₁ : ℕ) → Type 0
TellsClaim text variables model₀ claim₀ number place model₁ claim₁ =
    Tells (λ a. ReadsClaim text variables model₀ a model₁ × (claim₁ ≡ held a bit claim₀)) number place
