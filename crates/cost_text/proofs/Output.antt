-- The costs program's output by what its lines and its table come to. Assumes nothing.
use Rattle.std.specs.Prelude.{Ok, Err}
use mathlib.Core.Path.{◌≡◌, refl, ap}
use mathlib.Core.Bool.{false}
use mathlib.Core.List.{List}
use Prim.Native.Nat.{ℕ}
use lib.ListN.{length}
use Rattle.sheet.specs.declared.LinesFound.{LinesFound}
use Rattle.sheet.specs.declared.Refusal.{Refusal}
use Rattle.sheet.specs.Acceptance.{refusal_number, Outcome, Sheet, accept}
use Rattle.sheet.specs.Calls.{◌>>=◌, ◌giving◌}
use Rattle.sheet.specs.Texts.{read_lines, table_in, cost_lines, refused_line}
use Rattle.sheet.specs.Programs.{input_of, printed, costs_program}
use Rattle.program.proofs.Tables.{found_is}
use Rattle.program.proofs.Cut.{read_cut, same_table}
use Rattle.cost_text.specs.Costs.{cost_text, CostsUncut}

-- ---- a table, by what it is accepted as
module _ (table : List ℕ) where
  pub refusal_printed : {refusal : Refusal} → accept table ≡ Err refusal → cost_text table ≡ refused_line (refusal_number refusal.reason) refusal.place
  unfolding cost_text
  refusal_printed e = rw e

  pub costs_printed : {sheet : Sheet} → accept table ≡ Ok sheet → cost_text table ≡ cost_lines sheet.records
  unfolding cost_text
  costs_printed e = rw e

-- ---- the lines, by what a reader that was lent 2,048 bytes answers
module _ (input table : List ℕ) (h : length table ≡ 2048) where
  pub lines_printed : {refusal : Refusal} → read_lines false (input_of input) (length table) ≡ Err refusal → costs_program input ≡ refused_line (refusal_number refusal.reason) refusal.place
  unfolding costs_program
  lines_printed e = let f = rw h at e in rw f

  pub found_printed : (found : LinesFound) → read_lines false (input_of input) (length table) ≡ Ok found → costs_program input ≡ cost_text (table_in found.rows (input_of input))
  unfolding costs_program cost_text
  found_printed found e = rw (found_is false (input_of input) table h found e)

pub costs_uncut : CostsUncut
unfolding costs_program
costs_uncut input = rw (read_cut false input) (by (read_lines false input 2048) refl)
  where
    costs : List ℕ → Outcome (List ℕ)
    costs table = accept table giving λ sheet. cost_lines sheet.records

    by : (o : Outcome LinesFound) → read_lines false input 2048 ≡ o
        → printed (o >>= (λ l. costs (table_in l.rows (input_of input)))) ≡ printed (o >>= (λ l. costs (table_in l.rows input)))
    by (Err refusal) e = refl
    by (Ok l) e = ap (λ (table : List ℕ). printed (costs table)) (same_table false input l e)
