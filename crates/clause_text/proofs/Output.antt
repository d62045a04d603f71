-- The clause program's output by what its table comes to: the line of a refusal, or the DIMACS text of the slots; and that the cut of its
-- input changes none of it. Assumes nothing.
use Rattle.std.specs.Prelude.{Ok, Err}
use mathlib.Core.Path.{◌≡◌, refl, sym, ap, ◌∙◌}
use mathlib.Core.Bool.{false}
use mathlib.Core.List.{List, ◌++◌}
use Prim.Native.Nat.{ℕ, ◌≤◌}
use lib.ListN.{length, drop}
use lib.Seq.{take_at}
use lib.IntN.{ℤ}
use Rattle.circuit.specs.declared.Counts.{Counts}
use Rattle.sheet.specs.declared.LinesFound.{LinesFound}
use Rattle.sheet.specs.declared.Refusal.{Refusal}
use Rattle.sheet.specs.Acceptance.{refusal_number, Outcome, Sheet, accept}
use Rattle.sheet.specs.Calls.{◌>>=◌, ◌giving◌, left, sheet_slots}
use Rattle.sheet.specs.Texts.{read_lines, dimacs, refused_line}
use Rattle.sheet.specs.Programs.{input_of, sheet_in, printed, clause_program}
use Rattle.sheet.proofs.Called.{same_accepted, bound_accepts, giving_refuses}
use Rattle.promise.proofs.Counts.{counts_are_made}
use Rattle.table.proofs.Buffers.{left_accepted}
use Rattle.print.proofs.Pieces.{dimacs_joined}
use Rattle.program.specs.Sheets.{sheet_read}
use Rattle.program.proofs.Tables.{read_tells}
use Rattle.program.proofs.Cut.{sheet_cut}
use Rattle.clause_text.specs.Printing.{dimacs_text}
use Rattle.clause_text.specs.Uncut.{Uncut}

-- the slots that are counted are those that are written
slots_printed : (table : List ℕ) (sheet : Sheet) → accept table ≡ Ok sheet → (slots₀ : List ℤ)
    → dimacs_text sheet.counts (sheet_slots sheet ++ drop (length (sheet_slots sheet)) slots₀) ≡ dimacs sheet
slots_printed table sheet e slots₀ =
    let written = sheet_slots sheet in
    rw (take_at written (drop (length written) slots₀) sheet.counts.slots (sym (counts_are_made table sheet e).slot)) (dimacs_joined sheet)

module _ (input : List ℕ) where
  abbrev outcome : Outcome Sheet
  outcome = sheet_read false (input_of input)

  abbrev text : Sheet → Outcome (List ℕ)
  text sheet = Ok (dimacs sheet)

  output_is : clause_program input ≡ printed (outcome >>= text)
  unfolding clause_program
  output_is = by (read_lines false (input_of input) 2048)
    where
      by : (o : Outcome LinesFound) → printed (o >>= (λ l. sheet_in (input_of input) l >>= text)) ≡ printed ((o >>= sheet_in (input_of input)) >>= text)
      by (Err refusal) = refl
      by (Ok l) = refl

  -- by what is counted
  abbrev counts : Outcome Counts
  counts = outcome giving λ sheet. sheet.counts

  pub refusal_printed : {refusal : Refusal} → counts ≡ Err refusal → clause_program input ≡ refused_line (refusal_number refusal.reason) refusal.place
  refusal_printed e = output_is ∙ ap (λ (o : Outcome Sheet). printed (o >>= text)) (giving_refuses outcome (λ sheet. sheet.counts) e)

  module _ {k : Counts} (e : counts ≡ Ok k) where
    pub slots_fit : k.slots ≤ 16384
    slots_fit =
        let (sheet, is, same) = bound_accepts outcome e in
        rw (← same_accepted same) (read_tells false (input_of input) sheet is).2

    pub clauses_printed : (slots₀ : List ℤ) {slots : List ℤ} → slots ≡ left outcome sheet_slots slots₀ → clause_program input ≡ dimacs_text k slots
    clauses_printed slots₀ {slots} f =
        let (sheet, is, same) = bound_accepts outcome e in
        let (table, accepts, fits) = read_tells false (input_of input) sheet is in
        output_is ∙ ap (λ (o : Outcome Sheet). printed (o >>= text)) is
        ∙ sym (ap (λ (c : Counts). dimacs_text c slots) (sym (same_accepted same)) ∙ ap (dimacs_text sheet.counts) (f ∙ sym (left_accepted sheet_slots slots₀ is)) ∙ slots_printed table sheet accepts slots₀)

pub uncut : Uncut
uncut input = output_is input ∙ ap (λ (o : Outcome Sheet). printed (o >>= text input)) (sheet_cut false input)
