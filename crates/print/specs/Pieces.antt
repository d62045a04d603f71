-- The pieces of DIMACS text: its first line, and then a slot a piece. Assumes nothing.
use Rattle.std.specs.Prelude.{◌≡◌, List, ◌∷◌, ◌++◌, map, ℕ, ◌≤◌, ◌<◌, ℤ, length}
use Rattle.sheet.specs.Acceptance.{Sheet}
use Rattle.sheet.specs.Steps.{slots_for}
use Rattle.sheet.specs.Texts.{ascii, decimal, slot_text, dimacs}
use Rattle.print.specs.Pages.{pages}

-- a word, and two numbers behind it: the first line of DIMACS text, and that of a refusal
unfoldable pub pair_line : (word : List ℕ) (m n : ℕ) → List ℕ
pair_line word m n = word ++ decimal m ++ ascii " " ++ decimal n ++ ascii "\n"

unfoldable pub dimacs_pieces : (variables clauses : ℕ) → List ℤ → List (List ℕ)
dimacs_pieces variables clauses slots = pair_line (ascii "p cnf ") variables clauses ∷ map slot_text slots

-- as many pages as there are pieces, from piece 0 on and one after the other, are the paper's text
abbrev pub DimacsPages : Type 0
DimacsPages =
    (sheet : Sheet) (k room : ℕ) → 64 ≤ room → length (slots_for sheet.rows) < k
    → pages k 0 (dimacs_pieces sheet.counts.variables sheet.counts.clauses (slots_for sheet.rows)) room ≡ dimacs sheet
