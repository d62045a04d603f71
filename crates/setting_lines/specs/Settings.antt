-- The pieces of the settings in print: a row a piece, which is empty if the row is no unknown. Assumes nothing.
use Rattle.std.specs.Prelude.{Ok, Err}
use Rattle.std.specs.Prelude.{◌≡◌, List, [], ◌∷◌, ℕ, zero, suc, ◌+◌, ◌/◌, ◌≤◌, ℤ, pos, length, get_or, take, drop}
use Rattle.whole.specs.Tests.{if◌then◌otherwise◌}
use Rattle.whole.specs.Bits.{bit}
use Rattle.circuit.specs.Literals.{Assignment}
use Rattle.sheet.specs.Rows.{Reading, uses, is_unknown, read_row}
use Rattle.sheet.specs.Values.{fraction, denominator, row_val}
use Rattle.sheet.specs.Acceptance.{Sheet, accept}
use Rattle.sheet.specs.Steps.{read_rows, settings}
use Rattle.sheet.specs.Texts.{setting_lines, value_line}
use Rattle.print.specs.Pages.{pages}
use Rattle.unknown.specs.Unknowns.{reads_unknown}

-- a row's number, numerator and denominator
unfoldable pub setting_line : (i : ℕ) (numerator : ℤ) (denominator : ℕ) → List ℕ
setting_line i numerator denominator = value_line i (fraction numerator denominator)

-- v is the numerator; the denominator is that of the unknown's value, whatever is chosen for it
abbrev pub setting_piece : (i : ℕ) → Reading → (v : ℤ) → List ℕ
setting_piece i (Err reason) v = []
setting_piece i (Ok f) v = if is_unknown (uses f.kind) then setting_line i v (denominator (row_val [] f v)) otherwise []

-- n rows from row i on, the numerators of their unknowns in row order
unfoldable pub setting_pieces : (n i : ℕ) (bytes : List ℕ) (vs : List ℤ) → List (List ℕ)
setting_pieces zero i bytes vs = []
setting_pieces (suc n) i bytes vs =
    setting_piece i (read_row (take 8 bytes)) (get_or vs 0 (pos 0)) ∷ setting_pieces n (i + 1) (drop 8 bytes) (drop (bit (reads_unknown (read_row (take 8 bytes)))) vs)

abbrev pub table_pieces : (table : List ℕ) (numerators : List ℤ) → List (List ℕ)
table_pieces table numerators = setting_pieces (length table / 8) 0 table numerators

-- as many pages as there are rows, from row 0 on and one after the other, are the paper's lines; the numerators are those that decoding writes
abbrev pub SettingsPages : Type 0
SettingsPages =
    (table : List ℕ) (sheet : Sheet) → accept table ≡ Ok sheet → (s : Assignment) (k room : ℕ) → 64 ≤ room → length table / 8 ≤ k
    → pages k 0 (table_pieces table (settings sheet s)) room ≡ setting_lines 0 sheet.rows (read_rows sheet s)

-- how many of the first n rows are unknowns
unfoldable pub unknowns_in : (n : ℕ) (bytes : List ℕ) → ℕ
unknowns_in zero bytes = 0
unknowns_in (suc n) bytes = bit (reads_unknown (read_row (take 8 bytes))) + unknowns_in n (drop 8 bytes)
