-- "When it finds none at those widths, what shows that none was lost on the way to the solver?", said of the very texts that the two
-- programs print of a table of bytes that is accepted and whose slots fit. Assumes nothing.
use Rattle.std.specs.Prelude.{Ok, ◌≡◌, true, false, List, ◌++◌, ℕ, ◌≤◌, ℤ, length}
use Rattle.std.proofs.Math.Option.{some}
use Rattle.circuit.specs.Literals.{Clause, Assignment, all_true}
use Rattle.sheet.specs.Values.{row_values, Chosen}
use Rattle.sheet.specs.Acceptance.{Sheet, accept}
use Rattle.sheet.specs.Steps.{clauses}
use Rattle.sheet.specs.Calls.{model_of, constraint}
use Rattle.sheet.specs.Texts.{ascii, Bytes, lines_of, dimacs, setting_lines, model_text}
use Rattle.sheet.specs.Dimacs.{read_dimacs}
use Rattle.sheet.specs.Programs.{clause_program, settings_program}
use Rattle.promise.specs.Across.{rows_in}

-- of the table's lines the clause program prints the sheet's DIMACS text
abbrev pub ClausesPrinted : Type 0
ClausesPrinted =
    (table : List ℕ) (sheet : Sheet) → Bytes table → accept table ≡ Ok sheet → sheet.counts.slots ≤ 16384
    → clause_program (lines_of (rows_in table) table) ≡ dimacs sheet

-- that text, read by the format's own rules, is the sheet's number of variables and its clauses, all of them and no others
abbrev pub ClausesReadBack : Type 0
ClausesReadBack =
    (table : List ℕ) (sheet : Sheet) → Bytes table → accept table ≡ Ok sheet → sheet.counts.slots ≤ 16384
    → read_dimacs (clause_program (lines_of (rows_in table) table)) ≡ some (sheet.counts.variables, clauses sheet.rows)

-- so where no assignment of the variables that are read makes every clause that is read true, no chosen values make the constraint true
abbrev pub PrintedNoneExists : Type 0
PrintedNoneExists =
    (table : List ℕ) (sheet : Sheet) → Bytes table → accept table ≡ Ok sheet → sheet.counts.slots ≤ 16384
    → (variables : ℕ) (cs : List Clause) → read_dimacs (clause_program (lines_of (rows_in table) table)) ≡ some (variables, cs)
    → ((s : Assignment) → length s ≡ variables → all_true s cs ≡ false)
    → (values : List ℤ) → Chosen sheet.rows values → constraint sheet values ≡ false

-- if chosen values make the constraint true, the settings program, of the table's lines, an empty line and the solver's text of the model
-- that extending gives, prints the lines of these values
abbrev pub PrintedNoneLost : Type 0
PrintedNoneLost =
    (table : List ℕ) (sheet : Sheet) → Bytes table → accept table ≡ Ok sheet → sheet.counts.slots ≤ 16384
    → (values : List ℤ) → Chosen sheet.rows values → constraint sheet values ≡ true
    → settings_program (lines_of (rows_in table) table ++ ascii "\n" ++ model_text (model_of values sheet)) ≡ setting_lines 0 sheet.rows (row_values sheet.rows values)
