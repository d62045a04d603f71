-- What a function tells that reads a table into a lent sheet. Assumes nothing.
use Rattle.std.specs.Prelude.{Ok, Err}
use mathlib.Core.Path.{◌≡◌, sym, ◌∙◌}
use Rattle.sheet.specs.declared.Refusal.{Refusal}
use Rattle.sheet.specs.Acceptance.{Outcome}
use Rattle.sheet.specs.Calls.{◌giving◌}

pub read_into : {A B : Type 0} {result : Outcome A} {lent : B} {read : Outcome B} {a : A} → (result giving λ _. lent) ≡ read → result ≡ Ok a → read ≡ Ok lent
read_into e h = sym e ∙ rw h

pub read_refused : {A B : Type 0} {result : Outcome A} (lent : B) {read : Outcome B} {refusal : Refusal} → (result giving λ _. lent) ≡ read → result ≡ Err refusal → read ≡ Err refusal
read_refused lent e h = sym e ∙ rw h
