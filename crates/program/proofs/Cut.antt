-- The cut at 65,536 bytes changes nothing of the table that is read: its lines are decided by the first 4,353. Assumes nothing.
use Rattle.std.specs.Prelude.{Ok, Err}
use mathlib.Core.Path.{◌≡◌, refl, sym, ap, ◌∙◌}
use mathlib.Core.Bool.{Bool, true, ◌&&◌}
use mathlib.Core.List.{List, [], ◌∷◌}
use Prim.Native.Nat.{ℕ, zero, suc, ◌+◌, ◌*◌, ◌-◌, ◌≤◌, ◌<◌, min}
use native.Mathlib.Nat.{sub-zero}
use native.Mathlib.Decide.{dec_lt}
use native.Mathlib.Omega.{arith}
use lib.Dec.{eqb, ltb}
use lib.ListN.{length, take, drop}
use lib.Seq.{get_or-take, take_all}
use Rattle.whole.specs.Tests.{if◌then◌otherwise◌}
use Rattle.sheet.specs.declared.LinesFound.{LinesFound}
use Rattle.sheet.specs.declared.Reason.TheVariants.{BadLine}
use Rattle.sheet.specs.Acceptance.{Outcome, refused}
use Rattle.sheet.specs.Calls.{◌>>=◌}
use Rattle.sheet.specs.Texts.{nibble, begins_line, bytes_in, table_in, lines, lines_from, read_lines}
use Rattle.sheet.specs.Programs.{input_of, sheet_in}
use Rattle.program.specs.Sheets.{sheet_of, sheet_read}
use Rattle.program.proofs.Tables.{few_lines}

take_none : (k : ℕ) → take {A = ℕ} k [] ≡ []
take_none zero = refl
take_none (suc k) = refl

pub drop_cut : (n k : ℕ) (text : List ℕ) → drop n (take k text) ≡ take (k - n) (drop n text)
drop_cut zero k text = rw sub-zero
drop_cut (suc n) zero text = let z : 0 - suc n ≡ 0 = omega arith in rw z
drop_cut (suc n) (suc k) [] = sym (take_none (suc k - suc n))
drop_cut (suc n) (suc k) (b ∷ text) = let e : suc k - suc n ≡ k - n = omega arith in rw e (drop_cut n k text)

-- ---- the lines

begins_cut : (n k : ℕ) (text : List ℕ) → n < k → begins_line n (take k text) ≡ begins_line n text
unfolding begins_line
begins_cut n zero text h = absurd (omega arith)
begins_cut n (suc k) [] h = refl
begins_cut zero (suc k) (b ∷ text) h = refl
begins_cut (suc n) (suc k) (b ∷ text) h = ap (λ (r : Bool). ltb (nibble b) 16 && r) (begins_cut n k text (omega arith))

module _ (blank : Bool) (n : ℕ) where
  no_more_cut : (k : ℕ) (text : List ℕ) → 0 < k → lines_from 0 blank n (take k text) ≡ lines_from 0 blank n text
  unfolding lines_from
  no_more_cut zero text h = absurd (omega arith)
  no_more_cut (suc k) [] h = refl
  no_more_cut (suc k) (b ∷ text) h = refl

  -- where the lines behind the first are the same
  one_more_cut : (more k : ℕ) (text : List ℕ) → 16 < k → lines_from more blank (n + 1) (drop 17 (take k text)) ≡ lines_from more blank (n + 1) (drop 17 text)
      → lines_from (suc more) blank n (take k text) ≡ lines_from (suc more) blank n text
  unfolding lines_from
  one_more_cut more zero text h d = absurd (omega arith)
  one_more_cut more (suc k) [] h d = refl
  one_more_cut more (suc k) (b ∷ text) h d =
      let all = b ∷ text in
      let ends = blank && eqb b 10 in
      ap (λ (u : Bool). if ends then lines n (17 * n + 1) true otherwise if u then lines_from more blank (n + 1) (drop 17 (take (suc k) all)) otherwise refused BadLine n) (begins_cut 16 (suc k) all h)
      ∙ ap (λ (o : Outcome LinesFound). if ends then lines n (17 * n + 1) true otherwise if begins_line 16 all then o otherwise refused BadLine n) d

lines_cut : (more : ℕ) (blank : Bool) (n k : ℕ) (text : List ℕ) → 17 * more < k → lines_from more blank n (take k text) ≡ lines_from more blank n text
lines_cut zero blank n k text h = no_more_cut blank n k text (omega arith)
lines_cut (suc more) blank n k text h =
    one_more_cut blank n more k text (omega arith)
    (ap (lines_from more blank (n + 1)) (drop_cut 17 k text) ∙ lines_cut more blank (n + 1) (k - 17) (drop 17 text) (omega arith))

-- ---- the table

bytes_cut : (n k : ℕ) (text : List ℕ) → 2 * n ≤ k → bytes_in n (take k text) ≡ bytes_in n text
unfolding bytes_in
bytes_cut zero k text h = refl
bytes_cut (suc n) k text h =
    rw (get_or-take k text 0 0 (omega arith), get_or-take k text 1 0 (omega arith), drop_cut 2 k text, bytes_cut n (k - 2) (drop 2 text) (omega arith))

table_cut : (n k : ℕ) (text : List ℕ) → 17 * n ≤ k → table_in n (take k text) ≡ table_in n text
unfolding table_in
table_cut zero k text h = refl
table_cut (suc n) k text h = rw (bytes_cut 8 k text (omega arith), drop_cut 17 k text, table_cut n (k - 17) (drop 17 text) (omega arith))

-- ---- the sheet

module _ (blank : Bool) (text : List ℕ) where
  pub read_cut : read_lines blank (input_of text) 2048 ≡ read_lines blank text 2048
  unfolding read_lines
  read_cut = lines_cut 256 blank 0 65536 text (omega arith)

  pub same_table : (l : LinesFound) → read_lines blank text 2048 ≡ Ok l → table_in l.rows (input_of text) ≡ table_in l.rows text
  unfolding read_lines
  same_table l e = table_cut l.rows 65536 text (omega (arith, few_lines 256 blank 0 text l e))

  pub found_cut : (l : LinesFound) → read_lines blank text 2048 ≡ Ok l → sheet_in (input_of text) l ≡ sheet_in text l
  found_cut l e = ap sheet_of (same_table l e)

  pub sheet_cut : sheet_read blank (input_of text) ≡ sheet_read blank text
  sheet_cut = ap (λ (o : Outcome LinesFound). o >>= sheet_in (input_of text)) read_cut ∙ by (read_lines blank text 2048) refl
    where
      by : (o : Outcome LinesFound) → read_lines blank text 2048 ≡ o → (o >>= sheet_in (input_of text)) ≡ (o >>= sheet_in text)
      by (Err refusal) e = refl
      by (Ok l) e = found_cut l e

-- as much of a text as there is up to 65,536 bytes
pub cut_short : (n : ℕ) (text : List ℕ) → n ≡ min (length text) 65536 → take n text ≡ input_of text
cut_short n text e = by (dec_lt (length text) 65536)
  where
    by : Dec (length text < 65536) → take n text ≡ input_of text
    by (yes h) = take_all n text (omega (arith, e)) ∙ sym (take_all 65536 text (omega arith))
    by (no h) =
        let k : n ≡ 65536 = omega (arith, e) in
        rw k
