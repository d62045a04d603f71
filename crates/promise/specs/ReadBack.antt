-- Clauses in print are read in one way: by DIMACS CNF's own rules, as the number of variables and the clauses of the table. Assumes nothing.
use Rattle.std.specs.Prelude.{Ok, ◌≡◌, List, ℕ}
use Rattle.std.proofs.Math.Option.{some}
use Rattle.sheet.specs.Acceptance.{Sheet, accept}
use Rattle.sheet.specs.Steps.{clauses}
use Rattle.sheet.specs.Texts.{dimacs}
use Rattle.sheet.specs.Dimacs.{read_dimacs}

-- what is printed of an accepted table is read back as its number of variables and its clauses: all of them and no others, in their order
abbrev pub DimacsReadBack : Type 0
DimacsReadBack =
    (table : List ℕ) (sheet : Sheet) → accept table ≡ Ok sheet → read_dimacs (dimacs sheet) ≡ some (sheet.counts.variables, clauses sheet.rows)

-- so no two tables whose clauses differ print the same text
abbrev pub DimacsTellsTheClauses : Type 0
DimacsTellsTheClauses =
    (table₁ table₂ : List ℕ) (sheet₁ sheet₂ : Sheet) → accept table₁ ≡ Ok sheet₁ → accept table₂ ≡ Ok sheet₂ → dimacs sheet₁ ≡ dimacs sheet₂
    → (sheet₁.counts.variables ≡ sheet₂.counts.variables) × (clauses sheet₁.rows ≡ clauses sheet₂.rows)
