-- A table counts few variables and clauses: its rows are few, and no product in one is wider than 48 bits. Assumes nothing.
use Rattle.std.specs.Prelude.{Ok}
use mathlib.Core.Path.{◌≡◌}
use mathlib.Core.Bool.{Bool, true, false}
use mathlib.Core.List.{List, [], ◌∷◌, ◌++◌}
use Prim.Native.Nat.{ℕ, ◌+◌, ◌*◌, ◌/◌, ◌≤◌}
use native.Mathlib.Nat.{mul-le-mul}
use native.Mathlib.Omega.{arith}
use lib.Dec.{eqb}
use lib.IntN.{pos}
use lib.ListN.{length}
use Rattle.whole.specs.Tests.{if◌then◌otherwise◌}
use Rattle.whole.specs.Bits.{fewest}
use Rattle.circuit.specs.declared.Counts.{Counts}
use Rattle.circuit.specs.Counting.{◌⊕◌, nothing, a_product, expanded_width, an_expansion, the_first}
use Rattle.sheet.specs.declared.Kind.{Kind}
use Rattle.sheet.specs.declared.Kind.TheVariants.{BooleanConstant, BooleanUnknown, NaturalUnknown, IntegerUnknown, NumberConstant, Not, And, Or, Implies, Iff, Sum, Difference, Product, Choice, Greater, Equal}
use Rattle.sheet.specs.declared.Fields.{Fields}
use Rattle.sheet.specs.declared.Record.{Record}
use Rattle.sheet.specs.Acceptance.{meeting, larger, bringing, plan_by, record_at, Sheet, accept}
use Rattle.sheet.proofs.Accepted.{Passed, passed_many, accepted_tells}

pub record Few (n : ℕ) (k : Counts) : Type 0 where
  pub variables : k.variables ≤ n
  pub clauses : k.clauses ≤ n

product_few : (w : ℕ) → w ≤ 48 → Few 20000 (a_product w)
unfolding a_product
product_few w h = let q : w * w ≤ 48 * 48 = mul-le-mul h h in record { variables = omega arith; clauses = omega arith }

expansion_few : (w f : ℕ) → expanded_width w f ≤ 48 → Few 20000 (an_expansion w f)
unfolding expanded_width an_expansion
expansion_few w f = by (eqb f 1)
  where
    by : (b : Bool) → (if b then w otherwise w + fewest (pos f)) ≤ 48 → Few 20000 (if b then nothing otherwise a_product (w + fewest (pos f)))
    by true h = record { variables = omega arith; clauses = omega arith }
    by false h = product_few (w + fewest (pos f)) h

bringing_few : (a b : Record) → larger a b ≤ 48 → Few 40000 (bringing a b)
bringing_few a b h =
    let x = expansion_few a.width (meeting a b / a.denominator) (omega arith) in
    let y = expansion_few b.width (meeting a b / b.denominator) (omega arith) in
    record { variables = omega arith; clauses = omega arith }

plan_few : (k : Kind) (p x y z : ℕ) (a b c : Record) → (plan_by k p x y z a b c).widest ≤ 48 → Few 50000 (plan_by k p x y z a b c).counts
plan_few BooleanConstant p x y z a b c h = omega arith
plan_few BooleanUnknown p x y z a b c h = omega arith
plan_few NaturalUnknown p x y z a b c h = omega arith
plan_few IntegerUnknown p x y z a b c h = omega arith
plan_few NumberConstant p x y z a b c h = omega arith
plan_few Not p x y z a b c h = omega arith
plan_few And p x y z a b c h = omega arith
plan_few Or p x y z a b c h = omega arith
plan_few Implies p x y z a b c h = omega arith
plan_few Iff p x y z a b c h = omega arith
plan_few Sum p x y z a b c h = omega (arith, bringing_few a b (omega arith))
plan_few Difference p x y z a b c h = omega (arith, bringing_few a b (omega arith))
plan_few Product p x y z a b c h = omega (arith, product_few (a.width + b.width) h)
plan_few Choice p x y z a b c h = omega (arith, bringing_few b c h)
plan_few Greater p x y z a b c h = omega (arith, bringing_few a b h)
plan_few Equal p x y z a b c h = omega (arith, bringing_few a b h)

rows_few : (rows : List Fields) (rs : List Record) (so : Counts) (records : List Record) (total : Counts) → Passed rs so rows records total
    → (total.variables ≤ so.variables + 50000 * length rows) × (total.clauses ≤ so.clauses + 50000 * length rows)
rows_few [] rs so records total p = rw p.1 (omega arith)
rows_few (f ∷ rows) rs so records total p =
    let ih = rows_few rows (rs ++ p.0 ∷ []) (so ⊕ p.1) records total p.3 in
    let plan = plan_few f.kind f.p f.x f.y f.z (record_at rs f.x) (record_at rs f.y) (record_at rs f.z) p.2.widest in
    let own = rw (← p.2.is_counts) at plan in
    (omega arith, omega arith)

pub counts_few : (table : List ℕ) (sheet : Sheet) → accept table ≡ Ok sheet → Few 12800002 sheet.counts
counts_few table sheet e =
    let a = accepted_tells table sheet e in
    let many = passed_many sheet.rows [] the_first sheet.records a.total a.passed in
    let few = rows_few sheet.rows [] the_first sheet.records a.total a.passed in
    rw a.counted (record { variables = omega (arith, a.few); clauses = omega (arith, a.few) })
