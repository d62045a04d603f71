-- The records of rows that pass are within the limits of refusals 8 and 9. Assumes nothing.
use mathlib.Core.Path.{◌≡◌, refl, subst}
use mathlib.Core.Bool.{Bool, true, false}
use mathlib.Core.List.{List, [], ◌∷◌, ◌++◌}
use Prim.Native.Nat.{ℕ, zero, suc, ◌*◌, ◌≤◌, ◌<◌}
use native.Mathlib.Omega.{arith}
use lib.Dec.{ltb}
use lib.ListN.{length, get_or-eq_default}
use borrow.Author.Tests.{ltb-true, ltb-false}
use Rattle.std.specs.List.{All}
use Rattle.std.proofs.lemmas.List.Elements.{All-push}
use Rattle.circuit.specs.declared.Counts.{Counts}
use Rattle.circuit.specs.Counting.{◌⊕◌}
use Rattle.whole.proofs.Divisors.{lcm-pos}
use Rattle.sheet.specs.declared.Kind.{Kind}
use Rattle.sheet.specs.declared.Kind.TheVariants.{BooleanConstant, BooleanUnknown, NaturalUnknown, IntegerUnknown, NumberConstant, Not, And, Or, Implies, Iff, Sum, Difference, Product, Choice, Greater, Equal}
use Rattle.sheet.specs.declared.Fields.{Fields}
use Rattle.sheet.specs.declared.Record.{Record}
use Rattle.sheet.specs.Rows.{uses}
use Rattle.sheet.specs.Acceptance.{outside, out_of_range, plan_by, missing, record_at}
use Rattle.sheet.proofs.Accepted.{Passes, Passed, passes_narrow}
use Rattle.sheet.proofs.Tested.{neither, at_least}
use Rattle.numbers.specs.Bounds.{Denominator}
use Rattle.judge.specs.Bounds.{InLimits}

limits_missing : InLimits missing
limits_missing = record { width = omega arith; denominator = record { some = omega arith; most = omega arith } }

-- the record of any row, and of one that is missing
pub limits_at : (rs : List Record) → All InLimits rs → (x : ℕ) → InLimits (record_at rs x)
limits_at rs all x = by (ltb x (length rs)) refl
  where
    by : (t : Bool) → ltb x (length rs) ≡ t → InLimits (record_at rs x)
    by true h = all x missing (ltb-true x (length rs) h)
    by false h = rw (get_or-eq_default rs missing (ltb-false x (length rs) h)) limits_missing

some_at : (rs : List Record) → All InLimits rs → (x : ℕ) → 0 < (record_at rs x).denominator
some_at rs all x = (limits_at rs all x).denominator.some

one : Denominator 1
one = record { some = omega arith; most = omega arith }

product_some : (m n : ℕ) → 0 < m → 0 < n → 0 < m * n
product_some (suc m) (suc n) h k = omega arith
product_some zero n h k = absurd (omega arith)
product_some (suc m) zero h k = absurd (omega arith)

-- within 8 a plan is over a denominator within 8
plan_denominator : (k : Kind) (p x y z : ℕ) (a b c : Record) → out_of_range (uses k) p x z ≡ false → 0 < a.denominator → 0 < b.denominator → 0 < c.denominator
    → (plan_by k p x y z a b c).common ≤ 4096 → Denominator (plan_by k p x y z a b c).denominator
plan_denominator BooleanConstant p x y z a b c o i j l h = one
plan_denominator BooleanUnknown p x y z a b c o i j l h = one
plan_denominator NaturalUnknown p x y z a b c o i j l h = record { some = at_least 1 4096 z (neither (outside 1 31 p) (outside 1 4096 z) o).1; most = h }
plan_denominator IntegerUnknown p x y z a b c o i j l h = record { some = at_least 1 4096 z (neither (outside 1 32 p) (outside 1 4096 z) o).1; most = h }
plan_denominator NumberConstant p x y z a b c o i j l h = record { some = at_least 1 4096 z o; most = h }
plan_denominator Not p x y z a b c o i j l h = one
plan_denominator And p x y z a b c o i j l h = one
plan_denominator Or p x y z a b c o i j l h = one
plan_denominator Implies p x y z a b c o i j l h = one
plan_denominator Iff p x y z a b c o i j l h = one
plan_denominator Sum p x y z a b c o i j l h = record { some = lcm-pos a.denominator b.denominator i j; most = h }
plan_denominator Difference p x y z a b c o i j l h = record { some = lcm-pos a.denominator b.denominator i j; most = h }
plan_denominator Product p x y z a b c o i j l h = record { some = product_some a.denominator b.denominator i j; most = h }
plan_denominator Choice p x y z a b c o i j l h = record { some = lcm-pos b.denominator c.denominator j l; most = h }
plan_denominator Greater p x y z a b c o i j l h = one
plan_denominator Equal p x y z a b c o i j l h = one

passes_limits : {earlier : List Record} {first : ℕ} {f : Fields} {r : Record} {k : Counts} → All InLimits earlier → Passes earlier first f r k → InLimits r
passes_limits {earlier} {f = f} all p = record {
  width = passes_narrow p;
  denominator =
      rw p.is_record
      (plan_denominator f.kind f.p f.x f.y f.z (record_at earlier f.x) (record_at earlier f.y) (record_at earlier f.z) p.ranged (some_at earlier all f.x) (some_at earlier all f.y) (some_at earlier all f.z) p.common);
}

pub rows_limits : (rows : List Fields) (rs : List Record) (so : Counts) (records : List Record) (total : Counts) → All InLimits rs → Passed rs so rows records total → All InLimits records
rows_limits [] rs so records total all p = subst (All InLimits) p.0 all
rows_limits (f ∷ rows) rs so records total all p =
    rows_limits rows (rs ++ p.0 ∷ []) (so ⊕ p.1) records total (All-push InLimits rs p.0 all (passes_limits all p.2)) p.3
