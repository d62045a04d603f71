-- The table that the reader of lines found, and the sheet that both programs take from it. Assumes nothing.
use Rattle.std.specs.Prelude.{Ok, Err}
use mathlib.Core.Path.{◌≡◌, refl, ap, ◌∙◌, subst}
use mathlib.Core.Bool.{Bool, true, false, ◌&&◌}
use mathlib.Core.List.{List, [], ◌∷◌}
use Prim.Native.Nat.{ℕ, zero, suc, ◌+◌, ◌*◌, ◌≤◌}
use native.Mathlib.Omega.{arith}
use borrow.Author.Tests.{ltb-false}
use lib.Dec.{eqb, ltb}
use lib.ListN.{length, take, drop, length-append}
use lib.Seq.{take_at}
use Rattle.whole.specs.Tests.{if◌then◌otherwise◌}
use Rattle.sheet.specs.declared.LinesFound.{LinesFound}
use Rattle.sheet.specs.declared.Reason.TheVariants.{TooManyRows, FewSlots, BadLine}
use Rattle.sheet.specs.declared.Refusal.{Refusal}
use Rattle.sheet.specs.Acceptance.{Outcome, refused, Sheet, accept}
use Rattle.sheet.specs.Calls.{left}
use Rattle.sheet.specs.Texts.{begins_line, bytes_in, table_in, lines, lines_from, read_lines}
use Rattle.sheet.specs.Programs.{sheet_in}
use Rattle.sheet.proofs.Called.{refused_not, same_accepted, bound_accepts, not_refused}
use Rattle.program.specs.Sheets.{sheet_of, sheet_read}

length_bytes : (k : ℕ) (text : List ℕ) → length (bytes_in k text) ≡ k
unfolding bytes_in
length_bytes zero text = refl
length_bytes (suc k) text = ap suc (length_bytes k (drop 2 text))

length_table : (n : ℕ) (text : List ℕ) → length (table_in n text) ≡ 8 * n
unfolding table_in
length_table zero text = refl
length_table (suc n) text = length-append (bytes_in 8 text) (table_in n (drop 17 text)) ∙ omega (arith, length_bytes 8 text, length_table n (drop 17 text))

-- ---- no more lines are found than there is room for

found_here : {n rest : ℕ} {b : Bool} {l : LinesFound} → lines n rest b ≡ Ok l → l.rows ≡ n
found_here e = cc

pub few_lines : (more : ℕ) (blank : Bool) (n : ℕ) (text : List ℕ) (l : LinesFound) → lines_from more blank n text ≡ Ok l → l.rows ≤ n + more
unfolding lines_from
few_lines zero blank n [] l e = omega (arith, found_here e)
few_lines zero blank n (b ∷ text) l e = by (blank && eqb b 10) e
  where
    by : (t : Bool) → (if t then lines n (17 * n + 1) true otherwise refused TooManyRows 0) ≡ Ok l → l.rows ≤ n + 0
    by true f = omega (arith, found_here f)
    by false f = refused_not f
few_lines (suc more) blank n [] l e = omega (arith, found_here e)
few_lines (suc more) blank n (b ∷ text) l e =
    by (blank && eqb b 10) (begins_line 16 (b ∷ text)) (lines_from more blank (n + 1) (drop 17 (b ∷ text))) (few_lines more blank (n + 1) (drop 17 (b ∷ text)) l) e
  where
    by : (t u : Bool) (o : Outcome LinesFound) → (o ≡ Ok l → l.rows ≤ n + 1 + more) → (if t then lines n (17 * n + 1) true otherwise if u then o otherwise refused BadLine n) ≡ Ok l
        → l.rows ≤ n + suc more
    by true u o next f = omega (arith, found_here f)
    by false true o next f = omega (arith, next f)
    by false false o next f = refused_not f

-- ---- what the answer of a reader that was lent 2,048 bytes tells

module _ (blank : Bool) (text table : List ℕ) (h : length table ≡ 2048) where
  pub lines_refused : {refusal : Refusal} → read_lines blank text (length table) ≡ Err refusal → sheet_read blank text ≡ Err refusal
  lines_refused e = let f = rw h at e in rw f

  module _ (found : LinesFound) (e : read_lines blank text (length table) ≡ Ok found) where
    pub found_is : read_lines blank text 2048 ≡ Ok found
    found_is = rw h at e

    pub found_few : 8 * found.rows ≤ 2048
    unfolding read_lines
    found_few = omega (arith, few_lines 256 blank 0 text _ found_is)

    pub found_table : {after : List ℕ} → after ≡ left (read_lines blank text (length table)) (λ l. table_in l.rows text) table
        → take (8 * found.rows) after ≡ table_in found.rows text
    unfolding left
    found_table f =
        let rows = table_in found.rows text in
        rw (f, h, found_is) (take_at rows (drop (length rows) table) (8 * found.rows) (length_table found.rows text))

    pub found_sheet : sheet_of (table_in found.rows text) ≡ sheet_read blank text
    found_sheet = rw found_is

-- ---- a sheet that is read is of an accepted table, and its slots fit

pub read_tells : (blank : Bool) (text : List ℕ) (sheet : Sheet) → sheet_read blank text ≡ Ok sheet
    → (table : List ℕ) × (accept table ≡ Ok sheet) × (sheet.counts.slots ≤ 16384)
read_tells blank text sheet e =
    let (l, read, f) = bound_accepts (read_lines blank text 2048) {f = sheet_in text} e in
    let table = table_in l.rows text in
    let (a, is, g) = bound_accepts (accept table) f in
    let (fits, k) = not_refused FewSlots a.counts.slots (ltb 16384 a.counts.slots) g in
    let s = same_accepted k in
    (table, is ∙ k, subst (λ (b : Sheet). b.counts.slots ≤ 16384) s (ltb-false 16384 a.counts.slots fits))
