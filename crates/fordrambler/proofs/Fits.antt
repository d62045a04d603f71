-- The rows of a table that a call accepts fit the records that are lent. Assumes nothing.
use Rattle.std.specs.Prelude.{Ok}
use mathlib.Core.Path.{◌≡◌, subst}
use mathlib.Core.Bool.{Bool, not}
use mathlib.Core.List.{List, map as mapped}
use Prim.Native.Nat.{ℕ, ◌+◌, ◌*◌, ◌≤◌}
use borrow.Author.Tests.{ltb-false}
use lib.Dec.{eqb, ltb}
use lib.ListN.{length}
use Rattle.sheet.specs.declared.Reason.TheVariants.{FewRecords, ShortMap, FewSlots, ModelLength, NotABit, ShortBuffer}
use Rattle.sheet.specs.Acceptance.{Sheet, accept}
use Rattle.sheet.specs.Calls.{row_count, unknown_count, false_at, checking, writing, decodable}
use Rattle.sheet.proofs.Called.{same_accepted, bound_accepts, not_refused}

module _ (table : List ℕ) (room : ℕ) where
  pub checking_fits : {sheet : Sheet} → checking table room ≡ Ok sheet → row_count sheet ≤ room
  unfolding checking
  checking_fits e =
      let (a, accepts, f) = bound_accepts (accept table) e in
      let (long, g) = not_refused FewRecords (row_count a) (ltb room (row_count a)) f in
      subst (λ (b : Sheet). row_count b ≤ room) (same_accepted g) (ltb-false room (row_count a) long)

  pub writing_fits : (map slots : ℕ) {sheet : Sheet} → writing table room map slots ≡ Ok sheet → row_count sheet ≤ room
  unfolding writing
  writing_fits map slots e =
      let (a, checks, f) = bound_accepts (checking table room) e in
      let (long, g) = not_refused ShortMap (48 * row_count a) (ltb map (48 * row_count a)) f in
      let (wide, h) = not_refused FewSlots a.counts.slots (ltb slots a.counts.slots) g in
      subst (λ (b : Sheet). row_count b ≤ room) (same_accepted h) (checking_fits checks)

  pub decodable_fits : (map slots : ℕ) (model : List ℕ) (values : ℕ) {sheet : Sheet} → decodable table room map slots model values ≡ Ok sheet → row_count sheet ≤ room
  unfolding decodable
  decodable_fits map slots model values e =
      let bits : List Bool = mapped (λ b. ltb b 2) model in
      let (a, writes, f) = bound_accepts (writing table room map slots) e in
      let (same, g) = not_refused ModelLength a.counts.variables (not (eqb (length model) a.counts.variables)) f in
      let (clean, h) = not_refused NotABit (false_at 0 bits) (ltb (false_at 0 bits) (0 + length bits)) g in
      let (wide, k) = not_refused ShortBuffer (unknown_count a) (ltb values (unknown_count a)) h in
      subst (λ (b : Sheet). row_count b ≤ room) (same_accepted k) (writing_fits map slots writes)
