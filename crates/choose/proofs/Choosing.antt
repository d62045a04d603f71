-- What choosing answers for an accepted table. Assumes nothing.
use Rattle.std.proofs.Common.{◌≡◌, ◌∙◌, not, List, ℕ, Ok, Some, None, length, ℤ}
use Rattle.std.specs.List.{All, position}
use borrow.Author.Tests.{eq-eqb, ne_eqb}
use Rattle.sheet.specs.declared.Reason.TheVariants.{ValueCount, ValueOutside}
use Rattle.sheet.specs.Rows.{uses}
use Rattle.sheet.specs.Values.{unknowns, each_in_bits}
use Rattle.sheet.specs.Acceptance.{refused, Sheet, accept}
use Rattle.sheet.specs.Calls.{unknown_count, choosing}
use Rattle.promise.proofs.Counts.{counts_are_made}
use Rattle.declared.specs.Declared.{Declared}
use Rattle.declared.proofs.Limits.{declared}
use Rattle.table.specs.Accepted.{Accepted}
use Rattle.table.proofs.Rowwise.{row}
use Rattle.choose.proofs.Testing.{counting_refuses}

module _ (table : List ℕ) (sheet : Sheet) (e : accept table ≡ Ok sheet) where
  unknown : sheet.counts.unknowns ≡ unknown_count sheet
  unknown = (counts_are_made table sheet e).unknown

  accepted : Accepted sheet
  accepted = record { table = table; is = e }

  pub all_declared : All (λ f. Declared (uses f.kind) f.p) sheet.rows
  all_declared k d h = let r = row accepted k d h in declared _ _ _ _ r.passes.ranged

  module _ (values : List ℤ) where
    pub miscounted : (length values ≡ sheet.counts.unknowns → ⊥) → refused ValueCount sheet.counts.unknowns ≡ choosing table values
    unfolding choosing
    miscounted h = rw (e, unknown, ne_eqb (length values) (unknown_count sheet) (rw unknown at h))

    module _ (h : length values ≡ sheet.counts.unknowns) where
      pub outside : {i : ℕ} → position not (each_in_bits (unknowns sheet.rows) values) ≡ Some i → refused ValueOutside i ≡ choosing table values
      unfolding choosing
      outside q = rw (e, eq-eqb (length values) (unknown_count sheet) (h ∙ unknown), counting_refuses ValueOutside (each_in_bits (unknowns sheet.rows) values), q)

      pub inside : position not (each_in_bits (unknowns sheet.rows) values) ≡ None → Ok sheet ≡ choosing table values
      unfolding choosing
      inside q = rw (e, eq-eqb (length values) (unknown_count sheet) (h ∙ unknown), counting_refuses ValueOutside (each_in_bits (unknowns sheet.rows) values), q)

pub ruleset choices = (all_declared, miscounted, outside, inside)
