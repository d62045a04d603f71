-- What decoding knows from step to step: the table is written, 19 is decided over its slots, and what then remains is the settings, or is
-- not written. Assumes nothing.
use Rattle.std.specs.Prelude.{Ok, Err, Option, Some, None, is_some}
use mathlib.Core.Path.{◌≡◌, refl, sym, ap, ◌∙◌}
use mathlib.Core.Bool.{true, false}
use mathlib.Core.List.{List, ◌++◌}
use Prim.Native.Nat.{ℕ, ◌≤◌}
use native.Mathlib.Omega.{arith}
use lib.IntN.{ℤ}
use lib.ListN.{length, take, drop, length-append}
use lib.Seq.{take_at}
use Rattle.sheet.specs.declared.Reason.TheVariants.{FalseClause}
use Rattle.sheet.specs.declared.Refusal.{Refusal}
use Rattle.sheet.specs.Acceptance.{Outcome, Sheet}
use Rattle.sheet.specs.Steps.{clauses, slots_for}
use Rattle.sheet.specs.Calls.{◌>>◌, decodable, decoding, left, settings_of}
use Rattle.sheet.proofs.Naming.{clauses_named}
use Rattle.promise.proofs.Counts.{counts_are_made}
use Rattle.table.specs.Accepted.{Accepted}
use Rattle.table.proofs.Buffers.{left_refused, left_accepted}
use Rattle.table.proofs.Rowwise.{few_counts}
use Rattle.frame.specs.Frame.{front}
use Rattle.assign.specs.Model.{AllSlotOf}
use Rattle.assign.specs.Clauses.{clauses_in, truths, first_false_from}
use Rattle.assign.proofs.Slots.{slots_name}
use Rattle.assign.proofs.Refusal.{clauses_written, refused_at, counting_refuses}
use Rattle.decode.specs.Tried.{unless_false}

-- ---- 19 behind the other refusals: the first false clause decides
unless_refused : (k : Option ℕ) (sheet : Sheet) → (refused_at FalseClause k >> Ok sheet) ≡ unless_false k sheet
unless_refused None sheet = refl
unless_refused (Some k) sheet = refl

module _ (table : List ℕ) (records map slots : ℕ) (model : List ℕ) (values : ℕ) where
  pub decoding_refused : {refusal : Refusal} → decodable table records map slots model values ≡ Err refusal → decoding table records map slots model values ≡ Err refusal
  unfolding decoding
  decoding_refused e = rw e

  pub decoding_decided : {sheet : Sheet} → decodable table records map slots model values ≡ Ok sheet
      → decoding table records map slots model values ≡ unless_false (first_false_from 1 (truths model (clauses sheet.rows))) sheet
  unfolding decoding
  decoding_decided {sheet} is =
      let bs = truths model (clauses sheet.rows) in
      rw (is, counting_refuses FalseClause 1 bs) (unless_refused (first_false_from 1 bs) sheet)

-- ---- the slots of a written table: each is 0 or a literal of one of its variables, and they are read back as its clauses
module _ {sheet : Sheet} (a : Accepted sheet) (slots₀ : List ℤ) {slots : List ℤ} (e : slots ≡ front (slots_for sheet.rows) slots₀) where
  many : sheet.counts.slots ≡ length (slots_for sheet.rows)
  many = (counts_are_made a.table sheet a.is).slot

  tail : List ℤ
  tail = drop (length (slots_for sheet.rows)) slots₀

  whole : slots ≡ slots_for sheet.rows ++ tail
  unfolding front tail
  whole = e

  pub slots_fit : sheet.counts.slots ≤ length slots
  slots_fit = omega (arith, ap length whole, length-append (slots_for sheet.rows) tail, many)

  pub slots_named : {m : ℕ} → m ≡ sheet.counts.variables → AllSlotOf m (take sheet.counts.slots slots)
  unfolding slots_for
  slots_named same =
      let all : take sheet.counts.slots slots ≡ slots_for sheet.rows = ap (take sheet.counts.slots) whole ∙ take_at (slots_for sheet.rows) tail sheet.counts.slots (sym many) in
      rw (all, same) (slots_name sheet.counts.variables (omega (arith, (few_counts a).variables)) (clauses sheet.rows) (clauses_named a.table sheet a.is))

  pub slots_read : clauses_in (take sheet.counts.slots slots) ≡ clauses sheet.rows
  unfolding slots_for
  slots_read = ap (λ (k : ℕ). clauses_in (take k slots)) many ∙ clauses_written (clauses sheet.rows) slots tail whole

-- ---- what remains of the values
module _ (model : List ℕ) (values₀ : List ℤ) (sheet : Sheet) {o : Outcome Sheet} where
  pub values_put : (k : Option ℕ) → o ≡ unless_false k sheet → is_some k ≡ false → {values : List ℤ} → values ≡ front (settings_of model sheet) values₀ → values ≡ left o (settings_of model) values₀
  unfolding front
  values_put None decided h e = e ∙ left_accepted (settings_of model) values₀ decided
  values_put (Some k) decided h e = cc

  pub values_kept : (k : Option ℕ) → o ≡ unless_false k sheet → is_some k ≡ true → values₀ ≡ left o (settings_of model) values₀
  values_kept None decided h = cc
  values_kept (Some k) decided h = left_refused (settings_of model) values₀ decided
