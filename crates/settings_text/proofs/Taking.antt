-- What fitting a table comes to: the line of its refusal, or the program goes on with it; and what it then knows. Assumes nothing.
use Rattle.std.specs.Prelude.{Ok, Err}
use mathlib.Core.Path.{◌≡◌, refl, sym, ◌∙◌, subst}
use mathlib.Core.Bool.{Bool}
use mathlib.Core.List.{List}
use Prim.Native.Nat.{ℕ, ◌≤◌, ◌<◌}
use native.Mathlib.Omega.{arith}
use borrow.Author.Tests.{ltb-false}
use lib.Dec.{ltb}
use Rattle.sheet.specs.declared.Reason.TheVariants.{FewSlots}
use Rattle.sheet.specs.declared.Refusal.{Refusal}
use Rattle.sheet.specs.Acceptance.{refusal_number, Outcome, Sheet, accept}
use Rattle.sheet.specs.Calls.{writing}
use Rattle.sheet.specs.Texts.{refused_line}
use Rattle.sheet.proofs.Called.{same_accepted, bound_accepts, not_refused}
use Rattle.sheet.proofs.Slim.{variables_few}
use Rattle.program.specs.Sheets.{sheet_of}
use Rattle.program.proofs.Rooms.{writing_sheet}
use Rattle.settings_text.specs.Replies.{Taken, claim_text}

module _ (table : List ℕ) where
  sheet_is : {o : Outcome Sheet} → writing table 256 12288 16384 ≡ o → sheet_of table ≡ o
  sheet_is e = sym (writing_sheet table 12288 (omega arith)) ∙ e

  pub table_printed : (all : Bool) (rest : List ℕ) {refusal : Refusal} → writing table 256 12288 16384 ≡ Err refusal
      → claim_text all table rest ≡ refused_line (refusal_number refusal.reason) refusal.place
  unfolding claim_text
  table_printed all rest e = rw (sheet_is e)

  pub table_taken : {sheet : Sheet} → writing table 256 12288 16384 ≡ Ok sheet → Taken table sheet.counts.variables
  table_taken {sheet = sheet} e = record { sheet = sheet; is = sheet_is e; many = refl }

-- a table that the program goes on with
pub taken_accepted : {table : List ℕ} {n : ℕ} (t : Taken table n) → (accept table ≡ Ok t.sheet) × (t.sheet.counts.slots ≤ 16384)
taken_accepted {table} t =
    let (a, is, g) = bound_accepts (accept table) t.is in
    let (fits, k) = not_refused FewSlots a.counts.slots (ltb 16384 a.counts.slots) g in
    let s = same_accepted k in
    (is ∙ k, subst (λ (b : Sheet). b.counts.slots ≤ 16384) s (ltb-false 16384 a.counts.slots fits))

pub taken_few : {table : List ℕ} {n : ℕ} → Taken table n → n < 10000
taken_few {table} t =
    let (is, fits) = taken_accepted t in
    omega (arith, t.many, variables_few table t.sheet is fits)
