-- The refusals of decoding before anything is written, 16 to 18 behind those of writing. Assumes nothing.
use Rattle.std.specs.Prelude.{Ok, Some, None}
use mathlib.Core.Path.{◌≡◌, subst}
use mathlib.Core.Bool.{not}
use mathlib.Core.List.{List}
use Prim.Native.Nat.{ℕ, ◌+◌, ◌≤◌, ◌<◌}
use borrow.Author.Tests.{ltb-false, eqb-true, not-false, lt-ltb, le-ltb, eq-eqb}
use lib.Dec.{eqb, ltb}
use lib.ListN.{length}
use Rattle.sheet.specs.declared.Reason.TheVariants.{ModelLength, NotABit, ShortBuffer}
use Rattle.sheet.specs.Acceptance.{refused, Sheet}
use Rattle.sheet.specs.Calls.{false_at, unknown_count, writing, decodable}
use Rattle.sheet.proofs.Called.{same_accepted, bound_accepts, not_refused, writing_tells}
use Rattle.promise.proofs.Counts.{counts_are_made}
use Rattle.write.proofs.Fitted.{Fitted, fitted}
use Rattle.assign.specs.Model.{are_bits}
use Rattle.assign.specs.Clauses.{first_false_from}
use Rattle.assign.proofs.Refusal.{counting_refuses}

-- a table that a model can be decoded for, if it makes every clause true
pub record Ready (sheet : Sheet) (map_room slot_room : ℕ) (model : List ℕ) (value_room : ℕ) : Type 0 where
  pub fit : Fitted sheet map_room slot_room
  pub variables : length model ≡ sheet.counts.variables
  pub room : unknown_count sheet ≤ value_room

module _ (table : List ℕ) (records map slots : ℕ) (model : List ℕ) (values : ℕ) {sheet : Sheet} where
  pub ready : decodable table records map slots model values ≡ Ok sheet → Ready sheet map slots model values
  unfolding decodable
  ready e =
      let (a, is, f) = bound_accepts (writing table records map slots) e in
      let (same, g) = not_refused ModelLength a.counts.variables (not (eqb (length model) a.counts.variables)) f in
      let (bits, h) = not_refused NotABit (false_at 0 (are_bits model)) (ltb (false_at 0 (are_bits model)) (0 + length (are_bits model))) g in
      let (wide, k) = not_refused ShortBuffer (unknown_count a) (ltb values (unknown_count a)) h in
      subst (λ (b : Sheet). Ready b map slots model values) (same_accepted k)
      (record {
        fit = fitted table records map slots is;
        variables = eqb-true (length model) a.counts.variables (not-false (eqb (length model) a.counts.variables) same);
        room = ltb-false values (unknown_count a) wide;
      })

  -- 17 and 18, behind 16
  module _ (is : writing table records map slots ≡ Ok sheet) (same : length model ≡ sheet.counts.variables) where
    asked : sheet.counts.unknowns ≡ unknown_count sheet
    asked = (counts_are_made table sheet (writing_tells table records map slots sheet is).is).unknown

    pub by_byte : {i : ℕ} → first_false_from 0 (are_bits model) ≡ Some i → refused NotABit i ≡ decodable table records map slots model values
    unfolding decodable
    by_byte e = rw (is, eq-eqb (length model) sheet.counts.variables same, counting_refuses NotABit 0 (are_bits model), e)

    module _ (bits : first_false_from 0 (are_bits model) ≡ None) where
      pub by_room : values < sheet.counts.unknowns → refused ShortBuffer sheet.counts.unknowns ≡ decodable table records map slots model values
      unfolding decodable
      by_room h = rw (is, eq-eqb (length model) sheet.counts.variables same, counting_refuses NotABit 0 (are_bits model), bits, asked, lt-ltb values (unknown_count sheet) (rw asked at h))

      pub by_none : sheet.counts.unknowns ≤ values → Ok sheet ≡ decodable table records map slots model values
      unfolding decodable
      by_none h = rw (is, eq-eqb (length model) sheet.counts.variables same, counting_refuses NotABit 0 (are_bits model), bits, le-ltb values (unknown_count sheet) (rw asked at h))
