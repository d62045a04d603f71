-- None is lost on the way through the two programs: each reads the table's lines as the table. Assumes nothing.
use Rattle.std.specs.Prelude.{Ok}
use mathlib.Core.Path.{◌≡◌, sym, ap, ◌∙◌}
use mathlib.Core.Bool.{Bool, true, false}
use mathlib.Core.List.{List, [], ◌∷◌, ◌++◌, map, append_assoc, append-nil}
use mathlib.Core.Option.{some-injective}
use Prim.Native.Nat.{ℕ, ◌+◌, ◌*◌, ◌≤◌}
use native.Mathlib.Omega.{arith}
use borrow.Author.Tests.{le-ltb}
use lib.IntN.{ℤ}
use lib.ListN.{drop, length-append, length-map}
use lib.Seq.{take_all, drop_at}
use Rattle.whole.specs.Bits.{bit}
use Rattle.circuit.specs.Literals.{Clause, Assignment, all_true}
use Rattle.sheet.specs.Values.{row_values, Chosen}
use Rattle.sheet.specs.Acceptance.{Sheet, accept}
use Rattle.sheet.specs.Steps.{extension}
use Rattle.sheet.specs.Calls.{model_of, constraint}
use Rattle.sheet.specs.Texts.{ascii, Bytes, lines_of, dimacs, setting_lines, model_line, model, model_text, claim_in}
use Rattle.sheet.specs.Dimacs.{read_dimacs}
use Rattle.sheet.specs.Programs.{input_of, sheet_in, settled, reply, settings_told, clause_program, settings_program}
use Rattle.sheet.specs.Statements.{Rows, Bits}
use Rattle.sheet.proofs.Accepted.{IsAccepted, accepted_tells}
use Rattle.sheet.proofs.Lines.{table_long, table_bytes_lem, table_read, table_ended}
use Rattle.sheet.proofs.Slim.{variables_few}
use Rattle.sheet.proofs.Models.{printed_accepted, variables_short}
use Rattle.promise.specs.Promise.{Promise}
use Rattle.promise.specs.Across.{rows_in}
use Rattle.promise.specs.NoneFound.{ClausesPrinted, ClausesReadBack, PrintedNoneExists, PrintedNoneLost}
use Rattle.promise.proofs.Promise.{demand_three}
use Rattle.promise.proofs.Assessor.{bits_back, extension_passes, none_exists}
use Rattle.promise.proofs.ReadBack.{dimacs_read_back}

bits_are : (s : Assignment) → Bits (map bit s)
bits_are [] = tt
bits_are (true ∷ s) = (omega arith, bits_are s)
bits_are (false ∷ s) = (omega arith, bits_are s)

module _ (table : List ℕ) (sheet : Sheet) (h : Bytes table) (e : accept table ≡ Ok sheet) (fits : sheet.counts.slots ≤ 16384) where
  abbrev n : ℕ
  n = rows_in table

  is : IsAccepted table sheet
  is = accepted_tells table sheet e

  rows : Rows n table
  rows = (h, omega (arith, is.bytes))

  few : n ≤ 256
  few = omega (arith, is.bytes, is.few)

  sheet_is : (text rest : List ℕ) → text ≡ lines_of n table ++ rest → (next : ℕ) (ended : Bool)
      → sheet_in text (record { rows = n; rest = next; ended = ended }) ≡ Ok sheet
  sheet_is text rest f next ended = rw (f, table_bytes_lem rest n table rows, e, le-ltb 16384 sheet.counts.slots fits)

  -- ---- the clauses

  lines_uncut : input_of (lines_of n table) ≡ lines_of n table
  lines_uncut = take_all 65536 (lines_of n table) (omega (arith, table_long n table rows, few))

  clauses_are : clause_program (lines_of n table) ≡ dimacs sheet
  unfolding clause_program
  clauses_are = rw (lines_uncut, table_read n table rows few false, sheet_is (lines_of n table) [] (sym (append-nil (lines_of n table))) (17 * n) false)

  -- ---- the settings
  module _ (values : List ℤ) (chosen : Chosen sheet.rows values) (holds : constraint sheet values ≡ true) where
    abbrev s : Assignment
    s = extension sheet.rows values

    abbrev bytes : List ℕ
    bytes = model_of values sheet

    abbrev input : List ℕ
    input = lines_of n table ++ ascii "\n" ++ model_text bytes

    abbrev settings : List ℕ
    settings = setting_lines 0 sheet.rows (row_values sheet.rows values)

    promised : Promise sheet values
    promised = demand_three table sheet e values chosen

    behind : drop (17 * n + 1) input ≡ model_text bytes
    behind = drop_at (lines_of n table ++ ascii "\n") (model_text bytes) (17 * n + 1) (length-append (lines_of n table) (ascii "\n") ∙ omega (arith, table_long n table rows))

    claim_is : claim_in sheet.counts.variables (model_text bytes) ≡ Ok (model bytes)
    claim_is = ap (λ (k : ℕ). claim_in k (model_text bytes)) (sym (length-map s bit ∙ promised.one.sized)) ∙ printed_accepted bytes (bits_are s)

    settled_is : settled settings_told sheet (model bytes) ≡ Ok settings
    settled_is = rw (bits_back s, extension_passes table sheet e values chosen holds, promised.rows s promised.one)

    -- so few variables that the model's line is read to its end
    input_uncut : input_of input ≡ input
    unfolding model_line
    input_uncut =
        let many = length-map s bit ∙ promised.one.sized in
        let short = variables_short bytes 1 (omega (arith, many, variables_few table sheet e fits)) in
        let ended = length-append (lines_of n table) (ascii "\n") in
        let long = length-append (lines_of n table ++ ascii "\n") (model_text bytes) in
        take_all 65536 input (omega (arith, table_long n table rows, few, ended, long, short, many, variables_few table sheet e fits))

    settings_are : settings_program input ≡ settings
    unfolding settings_program reply
    settings_are =
        let sheet-here = sheet_is input (10 ∷ model_text bytes) (append_assoc (lines_of n table) (ascii "\n") (model_text bytes)) (17 * n + 1) true in
        rw (input_uncut, table_ended n table rows few (model_text bytes), sheet-here, behind, claim_is, settled_is)

pub clauses_printed : ClausesPrinted
clauses_printed = clauses_are

pub clauses_read_back : ClausesReadBack
clauses_read_back table sheet h e fits = ap read_dimacs (clauses_are table sheet h e fits) ∙ dimacs_read_back table sheet e

pub printed_none_exists : PrintedNoneExists
printed_none_exists table sheet h e fits variables cs read none values chosen =
    let same = some-injective _ _ (sym (clauses_read_back table sheet h e fits) ∙ read) in
    none_exists table sheet e (λ s l. ap (λ (r : ℕ × List Clause). all_true s r.1) same ∙ none s (l ∙ ap (λ (r : ℕ × List Clause). r.0) same)) values chosen

pub printed_none_lost : PrintedNoneLost
printed_none_lost = settings_are
