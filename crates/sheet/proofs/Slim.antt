-- A table whose slots fit has fewer than 10,000 variables: a variable that is no unknown's takes ten slots or more, and a row has at most
-- 32 of an unknown. Assumes nothing.
use Rattle.std.specs.Prelude.{Ok}
use mathlib.Core.Path.{◌≡◌, ap}
use mathlib.Core.Bool.{Bool, true, false}
use mathlib.Core.List.{List, [], ◌∷◌, ◌++◌}
use Prim.Native.Nat.{ℕ, zero, suc, ◌+◌, ◌*◌, ◌/◌, ◌≤◌, ◌<◌}
use native.Mathlib.Omega.{arith}
use lib.Dec.{eqb}
use lib.IntN.{pos}
use lib.ListN.{length}
use Rattle.whole.specs.Tests.{if◌then◌otherwise◌}
use Rattle.whole.specs.Bits.{fewest}
use Rattle.circuit.specs.declared.Counts.{Counts}
use Rattle.circuit.specs.Counting.{◌⊕◌, nothing, a_product, an_expansion, the_first}
use Rattle.sheet.specs.declared.Kind.{Kind}
use Rattle.sheet.specs.declared.Kind.TheVariants.{BooleanConstant, BooleanUnknown, NaturalUnknown, IntegerUnknown, NumberConstant, Not, And, Or, Implies, Iff, Sum, Difference, Product, Choice, Greater, Equal}
use Rattle.sheet.specs.declared.Fields.{Fields}
use Rattle.sheet.specs.declared.Record.{Record}
use Rattle.sheet.specs.Rows.{uses}
use Rattle.sheet.specs.Acceptance.{outside, out_of_range, meeting, bringing, plan_by, record_at, Sheet, accept}
use Rattle.sheet.proofs.Accepted.{Passes, Passed, passed_many, accepted_tells}
use Rattle.sheet.proofs.Tested.{neither, at_most}

-- ten slots or more a variable
record Slim (k : Counts) : Type 0 where
  slim : 10 * k.variables ≤ k.slots

square : (w : ℕ) → w ≤ w * w
square zero = omega arith
square (suc w) = omega arith

product_slim : (w : ℕ) → Slim (a_product w)
unfolding a_product
product_slim w = record { slim = omega (arith, square w) }

expansion_slim : (w f : ℕ) → Slim (an_expansion w f)
unfolding an_expansion
expansion_slim w f = by (eqb f 1)
  where
    by : (b : Bool) → Slim (if b then nothing otherwise a_product (w + fewest (pos f)))
    by true = record { slim = omega arith }
    by false = product_slim (w + fewest (pos f))

bringing_slim : (a b : Record) → Slim (bringing a b)
bringing_slim a b = record { slim = omega (arith, (expansion_slim a.width (meeting a b / a.denominator)).slim, (expansion_slim b.width (meeting a b / b.denominator)).slim) }

plan_slim : (k : Kind) (p x y z : ℕ) (a b c : Record) → out_of_range (uses k) p x z ≡ false
    → 10 * (plan_by k p x y z a b c).counts.variables ≤ (plan_by k p x y z a b c).counts.slots + 320
plan_slim BooleanConstant p x y z a b c o = omega arith
plan_slim BooleanUnknown p x y z a b c o = omega arith
plan_slim NaturalUnknown p x y z a b c o = omega (arith, at_most 1 31 p (neither (outside 1 31 p) (outside 1 4096 z) o).0)
plan_slim IntegerUnknown p x y z a b c o = omega (arith, at_most 1 32 p (neither (outside 1 32 p) (outside 1 4096 z) o).0)
plan_slim NumberConstant p x y z a b c o = omega arith
plan_slim Not p x y z a b c o = omega arith
plan_slim And p x y z a b c o = omega arith
plan_slim Or p x y z a b c o = omega arith
plan_slim Implies p x y z a b c o = omega arith
plan_slim Iff p x y z a b c o = omega arith
plan_slim Sum p x y z a b c o = omega (arith, (bringing_slim a b).slim)
plan_slim Difference p x y z a b c o = omega (arith, (bringing_slim a b).slim)
plan_slim Product p x y z a b c o = omega (arith, (product_slim (a.width + b.width)).slim)
plan_slim Choice p x y z a b c o = omega (arith, (bringing_slim b c).slim)
plan_slim Greater p x y z a b c o = omega (arith, (bringing_slim a b).slim)
plan_slim Equal p x y z a b c o = omega (arith, (bringing_slim a b).slim)

passes_slim : {earlier : List Record} {first : ℕ} {f : Fields} {r : Record} {k : Counts} → Passes earlier first f r k → 10 * k.variables ≤ k.slots + 320
passes_slim {earlier} {f = f} p =
    rw p.is_counts (plan_slim f.kind f.p f.x f.y f.z (record_at earlier f.x) (record_at earlier f.y) (record_at earlier f.z) p.ranged)

rows_slim : (rows : List Fields) (rs : List Record) (so : Counts) (records : List Record) (total : Counts) → Passed rs so rows records total
    → 10 * total.variables + so.slots ≤ total.slots + 320 * length rows + 10 * so.variables
rows_slim [] rs so records total p = rw p.1 (omega arith)
rows_slim (f ∷ rows) rs so records total p = omega (arith, passes_slim p.2, rows_slim rows (rs ++ p.0 ∷ []) (so ⊕ p.1) records total p.3)

pub variables_few : (table : List ℕ) (sheet : Sheet) → accept table ≡ Ok sheet → sheet.counts.slots ≤ 16384 → sheet.counts.variables < 10000
variables_few table sheet e h =
    let a = accepted_tells table sheet e in
    let v = ap (λ (k : Counts). k.variables) a.counted in
    let l = ap (λ (k : Counts). k.slots) a.counted in
    let many = passed_many sheet.rows [] the_first sheet.records a.total a.passed in
    omega (arith, rows_slim sheet.rows [] the_first sheet.records a.total a.passed, a.few)
