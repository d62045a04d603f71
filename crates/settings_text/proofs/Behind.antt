-- The table in the lines of a text, and the text behind it: the lines end within the text. Assumes nothing.
use Rattle.std.specs.Prelude.{Ok, Err}
use mathlib.Core.Path.{◌≡◌, refl}
use mathlib.Core.Bool.{Bool, true, false, ◌&&◌}
use mathlib.Core.List.{List, [], ◌∷◌}
use Prim.Native.Nat.{ℕ, zero, suc, ◌+◌, ◌*◌, ◌≤◌}
use native.Mathlib.Omega.{arith}
use lib.Dec.{eqb}
use lib.ListN.{length, drop, length-drop}
use Rattle.whole.specs.Tests.{if◌then◌otherwise◌}
use Rattle.sheet.specs.declared.LinesFound.{LinesFound}
use Rattle.sheet.specs.declared.Reason.TheVariants.{TooManyRows, BadLine}
use Rattle.sheet.specs.declared.Refusal.{Refusal}
use Rattle.sheet.specs.Acceptance.{refusal_number, Outcome, refused}
use Rattle.sheet.specs.Texts.{begins_line, table_in, lines, lines_from, read_lines, refused_line}
use Rattle.sheet.specs.Programs.{reply}
use Rattle.sheet.proofs.Called.{refused_not}
use Rattle.lines.proofs.Laws.{begins_long}
use Rattle.settings_text.specs.Replies.{told_by, claim_text}

rest_here : {n rest : ℕ} {b : Bool} {l : LinesFound} → lines n rest b ≡ Ok l → l.rest ≡ rest
rest_here e = cc

-- behind the lines that were found: within the text, and behind at most `more` lines more and an empty one
abbrev Near : (more n : ℕ) (text : List ℕ) (rest : ℕ) → Type 0
Near more n text rest = (rest ≤ 17 * n + length text) × (rest ≤ 17 * (n + more) + 1)

rest_near : (more : ℕ) (blank : Bool) (n : ℕ) (text : List ℕ) (l : LinesFound) → lines_from more blank n text ≡ Ok l → Near more n text l.rest
unfolding lines_from
rest_near zero blank n [] l e = (omega (arith, rest_here e), omega (arith, rest_here e))
rest_near zero blank n (b ∷ text) l e = by (blank && eqb b 10) e
  where
    by : (t : Bool) → (if t then lines n (17 * n + 1) true otherwise refused TooManyRows 0) ≡ Ok l → Near 0 n (b ∷ text) l.rest
    by true f = (omega (arith, rest_here f), omega (arith, rest_here f))
    by false f = refused_not f
rest_near (suc more) blank n [] l e = (omega (arith, rest_here e), omega (arith, rest_here e))
rest_near (suc more) blank n (b ∷ text) l e =
    by (blank && eqb b 10) (begins_line 16 (b ∷ text)) refl (lines_from more blank (n + 1) (drop 17 (b ∷ text))) (rest_near more blank (n + 1) (drop 17 (b ∷ text)) l) e
  where
    by : (t u : Bool) → begins_line 16 (b ∷ text) ≡ u → (o : Outcome LinesFound) → (o ≡ Ok l → Near more (n + 1) (drop 17 (b ∷ text)) l.rest)
        → (if t then lines n (17 * n + 1) true otherwise if u then o otherwise refused BadLine n) ≡ Ok l → Near (suc more) n (b ∷ text) l.rest
    by true u q o next f = (omega (arith, rest_here f), omega (arith, rest_here f))
    by false true q o next f =
        let (within, near) = next f in
        (omega (arith, within, begins_long 16 (b ∷ text) q, length-drop 17 (b ∷ text)), omega (arith, near))
    by false false q o next f = refused_not f

pub read_near : (text : List ℕ) (l : LinesFound) → read_lines true text 2048 ≡ Ok l → (l.rest ≤ length text) × (l.rest ≤ 4353)
unfolding read_lines
read_near text l e = let (within, near) = rest_near 256 true 0 text l e in (omega (arith, within), omega (arith, near))

-- ---- by what a reader that was lent 2,048 bytes answers
module _ (all : Bool) (text table : List ℕ) (h : length table ≡ 2048) where
  pub lines_printed : {refusal : Refusal} → read_lines true text (length table) ≡ Err refusal → reply (told_by all) text ≡ refused_line (refusal_number refusal.reason) refusal.place
  unfolding reply
  lines_printed e = let f = rw h at e in rw f

  module _ (found : LinesFound) (e : read_lines true text (length table) ≡ Ok found) where
    found_is : read_lines true text 2048 ≡ Ok found
    found_is = rw h at e

    pub behind_within : found.rest ≤ length text
    behind_within = (read_near text _ found_is).0

    pub found_printed : reply (told_by all) text ≡ claim_text all (table_in found.rows text) (drop found.rest text)
    unfolding reply claim_text
    found_printed = rw found_is
