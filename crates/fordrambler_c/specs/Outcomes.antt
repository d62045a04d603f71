-- No two different outcomes meet the contract of a call for C: what goes in fixes the number, the place, and what then stands in every lent
-- buffer and number. ₀ marks what was lent, ₁ and ₂ what is there after one outcome and after another. Assumes nothing.
use Rattle.std.specs.Prelude.{◌≡◌, List, ℕ, ℤ}
use Rattle.sheet.specs.declared.Record.{Record}
use Rattle.fordrambler_c.specs.Told.{TellsCheck, TellsMeasure, TellsWrite, PlacesRow, TellsEvaluate, TellsExtend, TellsDecode, TellsLines, TellsLinesUntilEmpty, TellsClaim}

abbrev pub OneCheck : Type 0
OneCheck =
    (table : List ℕ) (records₀ : List Record) (number₁ number₂ place₁ place₂ : ℕ) (records₁ records₂ : List Record)
    → TellsCheck table records₀ number₁ place₁ records₁ → TellsCheck table records₀ number₂ place₂ records₂
    → (number₁ ≡ number₂) × (place₁ ≡ place₂) × (records₁ ≡ records₂)

abbrev pub OneMeasure : Type 0
OneMeasure =
    (table : List ℕ) (variables₀ clauses₀ slots₀ number₁ number₂ place₁ place₂ variables₁ variables₂ clauses₁ clauses₂ slots₁ slots₂ : ℕ)
    → TellsMeasure table variables₀ clauses₀ slots₀ number₁ place₁ variables₁ clauses₁ slots₁ → TellsMeasure table variables₀ clauses₀ slots₀ number₂ place₂ variables₂ clauses₂ slots₂
    → (number₁ ≡ number₂) × (place₁ ≡ place₂) × (variables₁ ≡ variables₂) × (clauses₁ ≡ clauses₂) × (slots₁ ≡ slots₂)

abbrev pub OneWrite : Type 0
OneWrite =
    (table : List ℕ) (records₀ : List Record) (map₀ slots₀ : List ℤ) (number₁ number₂ place₁ place₂ : ℕ) (records₁ records₂ : List Record) (map₁ map₂ slots₁ slots₂ : List ℤ)
    → TellsWrite table records₀ map₀ slots₀ number₁ place₁ records₁ map₁ slots₁ → TellsWrite table records₀ map₀ slots₀ number₂ place₂ records₂ map₂ slots₂
    → (number₁ ≡ number₂) × (place₁ ≡ place₂) × (records₁ ≡ records₂) × (map₁ ≡ map₂) × (slots₁ ≡ slots₂)

abbrev pub OneRow : Type 0
OneRow =
    (table : List ℕ) (slots : List ℤ) (row first₀ count₀ number₁ number₂ place₁ place₂ first₁ first₂ count₁ count₂ : ℕ)
    → PlacesRow table slots row first₀ count₀ number₁ place₁ first₁ count₁ → PlacesRow table slots row first₀ count₀ number₂ place₂ first₂ count₂
    → (number₁ ≡ number₂) × (place₁ ≡ place₂) × (first₁ ≡ first₂) × (count₁ ≡ count₂)

abbrev pub OneEvaluation : Type 0
OneEvaluation =
    (table : List ℕ) (values results₀ : List ℤ) (number₁ number₂ place₁ place₂ : ℕ) (results₁ results₂ : List ℤ)
    → TellsEvaluate table values results₀ number₁ place₁ results₁ → TellsEvaluate table values results₀ number₂ place₂ results₂
    → (number₁ ≡ number₂) × (place₁ ≡ place₂) × (results₁ ≡ results₂)

abbrev pub OneExtension : Type 0
OneExtension =
    (table : List ℕ) (values : List ℤ) (model₀ : List ℕ) (truth₀ number₁ number₂ place₁ place₂ : ℕ) (model₁ model₂ : List ℕ) (truth₁ truth₂ : ℕ)
    → TellsExtend table values model₀ truth₀ number₁ place₁ model₁ truth₁ → TellsExtend table values model₀ truth₀ number₂ place₂ model₂ truth₂
    → (number₁ ≡ number₂) × (place₁ ≡ place₂) × (model₁ ≡ model₂) × (truth₁ ≡ truth₂)

abbrev pub OneDecoding : Type 0
OneDecoding =
    (table : List ℕ) (records₀ : List Record) (map₀ slots₀ : List ℤ) (model : List ℕ) (values₀ : List ℤ) (number₁ number₂ place₁ place₂ : ℕ)
    → (records₁ records₂ : List Record) (map₁ map₂ slots₁ slots₂ values₁ values₂ : List ℤ)
    → TellsDecode table records₀ map₀ slots₀ model values₀ number₁ place₁ records₁ map₁ slots₁ values₁ → TellsDecode table records₀ map₀ slots₀ model values₀ number₂ place₂ records₂ map₂ slots₂ values₂
    → (number₁ ≡ number₂) × (place₁ ≡ place₂) × (records₁ ≡ records₂) × (map₁ ≡ map₂) × (slots₁ ≡ slots₂) × (values₁ ≡ values₂)

abbrev pub OneLines : Type 0
OneLines =
    (text table₀ : List ℕ) (bytes₀ number₁ number₂ place₁ place₂ : ℕ) (table₁ table₂ : List ℕ) (bytes₁ bytes₂ : ℕ)
    → TellsLines text table₀ bytes₀ number₁ place₁ table₁ bytes₁ → TellsLines text table₀ bytes₀ number₂ place₂ table₂ bytes₂
    → (number₁ ≡ number₂) × (place₁ ≡ place₂) × (table₁ ≡ table₂) × (bytes₁ ≡ bytes₂)

abbrev pub OneLinesUntilEmpty : Type 0
OneLinesUntilEmpty =
    (text table₀ : List ℕ) (bytes₀ rest₀ ended₀ number₁ number₂ place₁ place₂ : ℕ) (table₁ table₂ : List ℕ) (bytes₁ bytes₂ rest₁ rest₂ ended₁ ended₂ : ℕ)
    → TellsLinesUntilEmpty text table₀ bytes₀ rest₀ ended₀ number₁ place₁ table₁ bytes₁ rest₁ ended₁
    → TellsLinesUntilEmpty text table₀ bytes₀ rest₀ ended₀ number₂ place₂ table₂ bytes₂ rest₂ ended₂
    → (number₁ ≡ number₂) × (place₁ ≡ place₂) × (table₁ ≡ table₂) × (bytes₁ ≡ bytes₂) × (rest₁ ≡ rest₂) × (ended₁ ≡ ended₂)

abbrev pub OneClaim : Type 0
OneClaim =
    (text : List ℕ) (variables : ℕ) (model₀ : List ℕ) (claim₀ number₁ number₂ place₁ place₂ : ℕ) (model₁ model₂ : List ℕ) (claim₁ claim₂ : ℕ)
    → TellsClaim text variables model₀ claim₀ number₁ place₁ model₁ claim₁ → TellsClaim text variables model₀ claim₀ number₂ place₂ model₂ claim₂
    → (number₁ ≡ number₂) × (place₁ ≡ place₂) × (model₁ ≡ model₂) × (claim₁ ≡ claim₂)
