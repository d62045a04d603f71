-- What a call that fills records leaves in them and says. Assumes nothing.
use Rattle.std.specs.Prelude.{Ok, Err}
use mathlib.Core.Path.{◌≡◌}
use mathlib.Core.List.{List}
use Rattle.sheet.specs.declared.Record.{Record}
use Rattle.sheet.specs.declared.Refusal.{Refusal}
use Rattle.sheet.specs.Acceptance.{Outcome, Sheet}
use Rattle.sheet.specs.Calls.{left, sheet_records, done}
use Rattle.frame.specs.Frame.{front}

module _ {o : Outcome Sheet} where
  pub refused_says : {refusal : Refusal} → o ≡ Err refusal → Err refusal ≡ done o
  refused_says e = rw e

  pub done_says : {sheet : Sheet} → o ≡ Ok sheet → Ok tt ≡ done o
  done_says e = rw e

  pub records_kept : (records : List Record) {refusal : Refusal} → o ≡ Err refusal → records ≡ left o sheet_records records
  unfolding left
  records_kept records e = rw e

  pub records_filled : (records : List Record) {sheet : Sheet} → o ≡ Ok sheet → front sheet.records records ≡ left o sheet_records records
  unfolding front left
  records_filled records e = rw e
