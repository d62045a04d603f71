-- What the definitions of the lines say at each turn of a loop. Assumes nothing.
use mathlib.Core.Path.{◌≡◌, refl, sym, ap, ◌∙◌}
use mathlib.Core.Bool.{Bool, true, false, ◌&&◌, false≢true, and_assoc, and-eq-true_iff}
use mathlib.Core.List.{List, [], ◌∷◌, ◌++◌, append_assoc, append-nil}
use Prim.Native.Nat.{ℕ, zero, suc, ◌+◌, ◌*◌, ◌-◌, ◌%◌, ◌≤◌, ◌<◌}
use native.Mathlib.Nat.{sub-zero}
use native.Mathlib.Numerals.{add-one}
use native.Mathlib.Omega.{arith}
use lib.Dec.{ltb, eqb}
use lib.ListN.{length, get_or, set, take, drop, length-drop}
use lib.Seq.{drop-cons, drop-drop, get_or-drop, take_all}
use borrow.Rule.Slice.PartMut.{put_mid}
use Rattle.frame.specs.Frame.{front, over}
use Rattle.frame.proofs.Frames.{over_zero, over_none, over_over, lent_part}
use Rattle.std.proofs.lemmas.Grind.{common_steps}
use Rattle.whole.specs.Tests.{if◌then◌otherwise◌}
use Rattle.std.specs.Prelude.{Ok, Some, None, slice_get}
use Rattle.sheet.specs.declared.LinesFound.{LinesFound}
use Rattle.sheet.proofs.Called.{refused_not, same_accepted}
use Rattle.sheet.specs.declared.Reason.TheVariants.{TooManyRows, BadLine}
use Rattle.sheet.specs.Acceptance.{Outcome, refused}
use Rattle.sheet.specs.Texts.{nibble, begins_line, bytes_in, table_in, lines, lines_from}

-- ---- a line, digit by digit

-- a line's length
pub begins_long : (k : ℕ) (text : List ℕ) → begins_line k text ≡ true → suc k ≤ length text
unfolding begins_line
begins_long zero [] e = absurd (false≢true e)
begins_long zero (b ∷ text) e = omega arith
begins_long (suc k) [] e = absurd (false≢true e)
begins_long (suc k) (b ∷ text) e = omega (arith, begins_long k text ((and-eq-true_iff (ltb (nibble b) 16) (begins_line k text)).0 e).1)

-- the text is too short for a line
pub begins_short : (text : List ℕ) → length text < 17 → false ≡ begins_line 16 text
begins_short text h = by (begins_line 16 text) refl
  where
    by : (t : Bool) → begins_line 16 text ≡ t → false ≡ t
    by true e = absurd (omega (arith, begins_long 16 text e))
    by false e = refl

module _ (text : List ℕ) (i : ℕ) (k : i < length text) where
  -- whether all digits so far are good and what is left of the line decide
  pub begins_next : (good : Bool) → i < 16 → ((good && ltb (nibble (get_or text i 0)) 16) && begins_line (16 - (i + 1)) (drop (i + 1) text)) ≡ (good && begins_line (16 - i) (drop i text))
  unfolding begins_line
  begins_next good h =
      let n : 16 - i ≡ suc (16 - (i + 1)) = omega arith in
      rw (n, drop-cons text i 0 k, add-one) (and_assoc good (ltb (nibble (get_or text i 0)) 16) (begins_line (16 - suc i) (drop (suc i) text)))

  pub begins_last : i ≡ 16 → begins_line (16 - i) (drop i text) ≡ eqb (get_or text i 0) 10
  unfolding begins_line
  begins_last e =
      let n : 16 - i ≡ zero = omega arith in
      rw (n, drop-cons text i 0 k)

-- ---- line by line
pub first_is : (rest : List ℕ) (b : ℕ) → Some b ≡ slice_get rest 0 → rest ≡ b ∷ drop 1 rest
first_is [] b e = absurd cc
first_is (x ∷ rest) b e =
    let same : b ≡ x = cc in
    ap (λ (c : ℕ). c ∷ rest) (sym same)

pub none_is : (rest : List ℕ) → None ≡ slice_get rest 0 → rest ≡ []
none_is [] e = refl
none_is (x ∷ rest) e = absurd cc

-- n lines are passed, and the rest begins with b
module _ (blank : Bool) (n b : ℕ) (rest : List ℕ) (first : rest ≡ b ∷ drop 1 rest) where
  pub lines_ended : (more : ℕ) → blank ≡ true → b ≡ 10 → lines_from more blank n rest ≡ lines n (17 * n + 1) true
  unfolding lines_from
  lines_ended zero t e = rw (first, t, e)
  lines_ended (suc more) t e = rw (first, t, e)

  module _ (goes : (blank && eqb b 10) ≡ false) where
    pub lines_full : 256 ≤ n → lines_from (256 - n) blank n rest ≡ refused TooManyRows 0
    unfolding lines_from
    lines_full h =
        let none : 256 - n ≡ zero = omega arith in
        rw (none, first, goes)

    pub lines_bad : n < 256 → begins_line 16 rest ≡ false → lines_from (256 - n) blank n rest ≡ refused BadLine n
    unfolding lines_from
    lines_bad h e =
        let more : 256 - n ≡ suc (256 - (n + 1)) = omega arith in
        let bad : begins_line 16 (b ∷ drop 1 rest) ≡ false = rw (← first) e in
        rw (more, first, goes, bad)

    pub lines_more : n < 256 → begins_line 16 rest ≡ true → lines_from (256 - n) blank n rest ≡ lines_from (256 - (n + 1)) blank (n + 1) (drop 17 rest)
    unfolding lines_from
    lines_more h e =
        let more : 256 - n ≡ suc (256 - (n + 1)) = omega arith in
        let good : begins_line 16 (b ∷ drop 1 rest) ≡ true = rw (← first) e in
        let next : drop 17 (b ∷ drop 1 rest) ≡ drop 17 rest = rw (← first) in
        rw (more, first, goes, good, next)

pub lines_none : (more : ℕ) (blank : Bool) (n : ℕ) → lines_from more blank n [] ≡ lines n (17 * n) false
unfolding lines_from
lines_none zero blank n = refl
lines_none (suc more) blank n = refl

-- no more rows are found than may be, and their lines stand in the text
rows_of : {n rest : ℕ} {ended : Bool} {l : LinesFound} → lines n rest ended ≡ Ok l → l.rows ≡ n
rows_of e = let same : record { rows = _; rest = _; ended = _ } ≡ _ = same_accepted e in ap (λ (l : LinesFound). l.rows) (sym same)

pub lines_within : (more : ℕ) (blank : Bool) (n : ℕ) (text : List ℕ) {l : LinesFound} → lines_from more blank n text ≡ Ok l → (l.rows ≤ n + more) × (17 * l.rows ≤ 17 * n + length text)
unfolding lines_from
lines_within zero blank n [] e = (omega (arith, rows_of e), omega (arith, rows_of e))
lines_within (suc more) blank n [] e = (omega (arith, rows_of e), omega (arith, rows_of e))
lines_within zero blank n (b ∷ text) {l} e = by (blank && eqb b 10) e
  where
    by : (t : Bool) → (if t then lines n (17 * n + 1) true otherwise refused TooManyRows 0) ≡ Ok l → (l.rows ≤ n + 0) × (17 * l.rows ≤ 17 * n + length (b ∷ text))
    by true q = (omega (arith, rows_of q), omega (arith, rows_of q))
    by false q = refused_not q
lines_within (suc more) blank n (b ∷ text) {l} e =
    let rest = lines_from more blank (n + 1) (drop 17 (b ∷ text)) in
    by rest (blank && eqb b 10) (begins_line 16 (b ∷ text)) refl (λ q. lines_within more blank (n + 1) (drop 17 (b ∷ text)) q) e
  where
    by : (rest : Outcome LinesFound) (t u : Bool) → begins_line 16 (b ∷ text) ≡ u
        → (rest ≡ Ok l → (l.rows ≤ n + 1 + more) × (17 * l.rows ≤ 17 * (n + 1) + length (drop 17 (b ∷ text))))
        → (if t then lines n (17 * n + 1) true otherwise if u then rest otherwise refused BadLine n) ≡ Ok l
        → (l.rows ≤ n + suc more) × (17 * l.rows ≤ 17 * n + length (b ∷ text))
    by rest true u w r q = (omega (arith, rows_of q), omega (arith, rows_of q))
    by rest false false w r q = refused_not q
    by rest false true w r q =
        let (few, here) = r q in
        (omega (arith, few), omega (arith, here, begins_long 16 (b ∷ text) w, length-drop 17 (b ∷ text)))

-- ---- the bytes

-- i bytes of a line are passed
abbrev pub byte_at : List ℕ → ℕ → ℕ
byte_at text i = nibble (get_or text (2 * i) 0) % 16 * 16 + nibble (get_or text (2 * i + 1) 0) % 16

pub bytes_more : (i : ℕ) (text : List ℕ) → i < 8 → bytes_in (8 - i) (drop (2 * i) text) ≡ byte_at text i ∷ bytes_in (8 - (i + 1)) (drop (2 * (i + 1)) text)
unfolding bytes_in
bytes_more i text h =
    let n : 8 - i ≡ suc (8 - (i + 1)) = omega arith in
    let d : 2 * (i + 1) ≡ 2 * i + 2 = omega arith in
    let z : 2 * i + 0 ≡ 2 * i = omega arith in
    rw (n, d, ← drop-drop 2 (2 * i) text, get_or-drop (2 * i) text 0 0, get_or-drop (2 * i) text 1 0, z)

pub bytes_end : (i : ℕ) (text : List ℕ) → 8 ≤ i → bytes_in (8 - i) (drop (2 * i) text) ≡ []
unfolding bytes_in
bytes_end i text h =
    let n : 8 - i ≡ zero = omega arith in
    rw n

-- i bytes of a row are written, and those that are left of the line follow
module _ (row text all : List ℕ) (i : ℕ) (e : take i row ++ bytes_in (8 - i) (drop (2 * i) text) ≡ all) where
  pub row_more : i < 8 → i < length row → take (i + 1) (set row i (byte_at text i)) ++ bytes_in (8 - (i + 1)) (drop (2 * (i + 1)) text) ≡ all
  row_more h k =
      let b = byte_at text i in
      let one : take (i + 1) (set row i b) ≡ take i row ++ b ∷ [] = grind (arith, common_steps) in
      rw (one, append_assoc (take i row) (b ∷ []) (bytes_in (8 - (i + 1)) (drop (2 * (i + 1)) text)), ← bytes_more i text h) e

  pub row_end : 8 ≤ i → length row ≤ i → row ≡ all
  row_end h k = sym (append-nil row) ∙ (rw (bytes_end i text h, take_all i row k) at e)

-- ---- the rows

length_bytes : (k : ℕ) (text : List ℕ) → length (bytes_in k text) ≡ k
unfolding bytes_in
length_bytes zero text = refl
length_bytes (suc k) text = ap suc (length_bytes k (drop 2 text))

pub eight_bytes : (text : List ℕ) → length (bytes_in 8 text) ≡ 8
eight_bytes text = length_bytes 8 text

-- the rows that are left, over what is written
module _ (table₀ text : List ℕ) (rows : ℕ) where
  pub record Left (table : List ℕ) (r : ℕ) : Type 0 where
    pub left : over (8 * r) (table_in (rows - r) (drop (17 * r) text)) table ≡ front (table_in rows text) table₀

  pub left_all : Left table₀ 0
  left_all = record { left = rw sub-zero (over_zero _ _) }

  module _ {table : List ℕ} {r : ℕ} (l : Left table r) where
    pub left_step : {row : List ℕ} → r < rows → 8 * r + 8 ≤ length table → row ≡ bytes_in 8 (drop (17 * r) text)
        → Left (put_mid (8 * r) (8 * r + 8 - 8 * r) table row) (r + 1)
    unfolding table_in
    left_step {row} h k e =
        let bytes = bytes_in 8 (drop (17 * r) text) in
        let n : 8 * r + 8 - 8 * r ≡ length bytes = omega (arith, eight_bytes (drop (17 * r) text)) in
        let m : 8 * (r + 1) ≡ 8 * r + length bytes = omega (arith, eight_bytes (drop (17 * r) text)) in
        let more : rows - r ≡ suc (rows - (r + 1)) = omega arith in
        let next : 17 * (r + 1) ≡ 17 * r + 17 = omega arith in
        let rest = table_in (rows - (r + 1)) (drop (17 * r + 17) text) in
        record {
          left = rw (lent_part (8 * r) (8 * r + 8 - 8 * r) bytes table row n e, next, over_over (8 * r) (8 * (r + 1)) bytes rest table (omega arith) m) (rw (more, drop-drop 17 (17 * r) text) at l.left);
        }

    pub left_none : rows ≤ r → table ≡ front (table_in rows text) table₀
    unfolding table_in
    left_none h =
        let none : rows - r ≡ zero = omega arith in
        rw (none, over_none) at l.left
