-- The settings row by row: the piece of each row, and how many unknowns are before it. Assumes nothing.
use mathlib.Core.Path.{◌≡◌, refl, sym, ap, ◌∙◌}
use mathlib.Core.Bool.{Bool, true, false}
use mathlib.Core.List.{List, [], ◌∷◌, ◌++◌, append_assoc}
use Prim.Native.Nat.{ℕ, zero, suc, ◌+◌, ◌*◌, ◌/◌, ◌≤◌, ◌<◌}
use native.Mathlib.Nat.{add-zero, zero-add}
use native.Mathlib.Numerals.{add-one}
use native.Mathlib.Omega.{arith}
use lib.IntN.{ℤ, pos}
use mir.Val.{bool_byte}
use lib.ListN.{length, get_or, take, drop, length-append}
use lib.Seq.{get_or-drop, drop-drop}
use Rattle.whole.specs.Tests.{if◌then◌otherwise◌}
use Rattle.whole.specs.Bits.{bit}
use Rattle.std.specs.Prelude.{Ok, Err}
use Rattle.sheet.specs.Rows.{Reading, uses, is_unknown, read_row}
use Rattle.sheet.specs.Values.{denominator, row_val}
use Rattle.sheet.specs.Texts.{decimal, signed}
use Rattle.row.specs.RowAt.{row_at}
use Rattle.unknown.specs.Unknowns.{reads_unknown}
use Rattle.unknown.proofs.Taken.{bit_most}
use Rattle.sheet.proofs.Decimals.{length-decimal, length-signed}
use Rattle.setting_lines.specs.Settings.{setting_line, setting_piece, setting_pieces, table_pieces, unknowns_in}

-- ---- a line, and a row's piece

pub setting_parts : (i : ℕ) (n : ℤ) (d : ℕ) → (decimal i ++ 32 ∷ []) ++ (signed n ++ 32 ∷ []) ++ (decimal d ++ 10 ∷ []) ≡ setting_line i n d
unfolding setting_line
setting_parts i n d = simp append_assoc

pub length_setting : (i : ℕ) (n : ℤ) (d : ℕ) → length (setting_line i n d) ≤ 64
length_setting i n d = rw (sym (setting_parts i n d)) (simp length-append (omega (arith, length-decimal i, length-signed n, length-decimal d)))

piece_short : (i : ℕ) (r : Reading) (v : ℤ) → length (setting_piece i r v) ≤ 64
piece_short i (Err r) v = omega arith
piece_short i (Ok f) v = by (is_unknown (uses f.kind))
  where
    by : (b : Bool) → length (if b then setting_line i v (denominator (row_val [] f v)) otherwise []) ≤ 64
    by true = length_setting i v (denominator (row_val [] f v))
    by false = omega arith

-- ---- row by row

pub pieces_many : (n i : ℕ) (bytes : List ℕ) (vs : List ℤ) → length (setting_pieces n i bytes vs) ≡ n
unfolding setting_pieces
pieces_many zero i bytes vs = refl
pieces_many (suc n) i bytes vs = ap suc (pieces_many n (i + 1) (drop 8 bytes) (drop (bit (reads_unknown (read_row (take 8 bytes)))) vs))

row_later : (bytes : List ℕ) (k : ℕ) → row_at (drop 8 bytes) k ≡ row_at bytes (suc k)
row_later bytes k =
    let e : 8 * suc k ≡ 8 + 8 * k = omega arith in
    rw (drop-drop (8 * k) 8 bytes, e)

piece_at : (k n i : ℕ) (bytes : List ℕ) (vs : List ℤ) → k < n
    → get_or (setting_pieces n i bytes vs) k [] ≡ setting_piece (i + k) (row_at bytes k) (get_or vs (unknowns_in k bytes) (pos 0))
unfolding setting_pieces unknowns_in
piece_at k zero i bytes vs h = absurd (omega arith)
piece_at zero (suc n) i bytes vs h = rw add-zero
piece_at (suc k) (suc n) i bytes vs h =
    let u = bit (reads_unknown (read_row (take 8 bytes))) in
    let e : i + 1 + k ≡ i + suc k = omega arith in
    piece_at k n (i + 1) (drop 8 bytes) (drop u vs) (omega arith) ∙ rw (row_later bytes k, get_or-drop u vs (unknowns_in k (drop 8 bytes)) (pos 0), e)

-- a row's piece, before which there are as many unknowns as are used
pub piece_here : (table : List ℕ) (numerators : List ℤ) (i used : ℕ) → 8 * i + 8 ≤ length table → used ≡ unknowns_in i table
    → get_or (table_pieces table numerators) i [] ≡ setting_piece i (row_at table i) (get_or numerators used (pos 0))
piece_here table numerators i used h e =
    piece_at i (length table / 8) 0 table numerators (omega arith) ∙ rw (zero-add, e)

pub piece_fits : (k n : ℕ) (bytes : List ℕ) (vs : List ℤ) → k < n → length (get_or (setting_pieces n 0 bytes vs) k []) ≤ 64
piece_fits k n bytes vs h = rw (piece_at k n 0 bytes vs h) (piece_short (0 + k) (row_at bytes k) (get_or vs (unknowns_in k bytes) (pos 0)))

-- one row more
pub unknowns_none : (bytes : List ℕ) → unknowns_in 0 bytes ≡ 0
unfolding unknowns_in
unknowns_none bytes = refl

unknowns_next : (k : ℕ) (bytes : List ℕ) → unknowns_in (suc k) bytes ≡ unknowns_in k bytes + bit (reads_unknown (row_at bytes k))
unfolding unknowns_in
unknowns_next zero bytes = add-zero _ ∙ sym (zero-add _)
unknowns_next (suc k) bytes =
    let u = bit (reads_unknown (read_row (take 8 bytes))) in
    ap (λ (n : ℕ). u + n) (unknowns_next k (drop 8 bytes)) ∙ rw (row_later bytes k) (omega arith)

pub unknowns_more : (k : ℕ) (bytes : List ℕ) → unknowns_in (k + 1) bytes ≡ unknowns_in k bytes + bit (reads_unknown (row_at bytes k))
unknowns_more k bytes = rw add-one (unknowns_next k bytes)

pub unknowns_few : (k : ℕ) (bytes : List ℕ) → unknowns_in k bytes ≤ k
unfolding unknowns_in
unknowns_few zero bytes = omega arith
unknowns_few (suc k) bytes = omega (arith, bit_most (reads_unknown (read_row (take 8 bytes))), unknowns_few k (drop 8 bytes))

-- a truth as a number
pub truth_bit : (b : Bool) → bool_byte b ≡ bit b
truth_bit true = refl
truth_bit false = refl
