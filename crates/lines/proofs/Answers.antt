-- What the answer of the reader of lines tells of the outcome, and what is then left in the table. Assumes nothing.
use Rattle.std.specs.Prelude.{Ok, Err}
use mathlib.Core.Path.{◌≡◌, refl, sym, ◌∙◌}
use mathlib.Core.Bool.{Bool}
use mathlib.Core.List.{List}
use Prim.Native.Nat.{ℕ, ◌≤◌, ◌<◌}
use borrow.Author.Tests.{lt-ltb, le-ltb}
use lib.ListN.{length}
use Rattle.frame.specs.Frame.{front}
use Rattle.sheet.specs.declared.LinesFound.{LinesFound}
use Rattle.sheet.specs.declared.Reason.TheVariants.{ShortBuffer}
use Rattle.sheet.specs.declared.Refusal.{Refusal}
use Rattle.sheet.specs.Acceptance.{Outcome, refused}
use Rattle.sheet.specs.Calls.{left}
use Rattle.sheet.specs.Texts.{table_in, lines_from, read_lines}

module _ (blank : Bool) (text table : List ℕ) where
  abbrev outcome : Outcome LinesFound
  outcome = read_lines blank text (length table)

  -- the answer, and the table as it is left
  abbrev Answers : Outcome LinesFound → List ℕ → Type 0
  Answers answer after = (answer ≡ outcome) × (after ≡ left outcome (λ l. table_in l.rows text) table)

  pub too_short : length table < 2048 → Answers (refused ShortBuffer 2048) table
  unfolding read_lines left
  too_short h = rw (lt-ltb (length table) 2048 h) (refl, refl)

  module _ (h : 2048 ≤ length table) where
    judged : outcome ≡ lines_from 256 blank 0 text
    unfolding read_lines
    judged = rw (le-ltb (length table) 2048 h)

    pub lines_refused : (r : Refusal) → Err r ≡ lines_from 256 blank 0 text → Answers (Err r) table
    unfolding left
    lines_refused r e = rw (judged ∙ sym e) (refl, refl)

    pub lines_found : (l : LinesFound) (after : List ℕ) → Ok l ≡ lines_from 256 blank 0 text → after ≡ front (table_in l.rows text) table → Answers (Ok l) after
    unfolding left front
    lines_found l after e w = rw (w, judged ∙ sym e) (refl, refl)
