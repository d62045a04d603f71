-- What remains in a lent buffer, by the call's outcome. Assumes nothing.
use Rattle.std.specs.Prelude.{Ok, Err}
use mathlib.Core.Path.{◌≡◌}
use mathlib.Core.List.{List, ◌++◌}
use lib.ListN.{length, drop}
use Rattle.sheet.specs.declared.Refusal.{Refusal}
use Rattle.sheet.specs.Acceptance.{Outcome}
use Rattle.sheet.specs.Calls.{left}

module _ {A B : Type 0} {o : Outcome A} (written : A → List B) (l : List B) where
  pub left_refused : {refusal : Refusal} → o ≡ Err refusal → l ≡ left o written l
  unfolding left
  left_refused e = rw e

  pub left_accepted : {a : A} → o ≡ Ok a → written a ++ drop (length (written a)) l ≡ left o written l
  unfolding left
  left_accepted e = rw e
