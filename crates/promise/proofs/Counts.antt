-- The variables, clauses and slots of a table are what acceptance counts. Assumes nothing.
use mathlib.Core.Path.{◌≡◌, refl, ◌∙◌, ap, subst}
use mathlib.Core.Bool.{Bool, true, false}
use mathlib.Core.List.{List, [], ◌∷◌, ◌++◌}
use Prim.Native.Nat.{ℕ, suc, ◌+◌, ◌/◌, ◌≤◌}
use native.Mathlib.Omega.{arith}
use lib.Dec.{eqb}
use lib.ListN.{length, length-append}
use lib.IntN.{pos, nat_abs}
use Rattle.whole.specs.Tests.{if◌then◌otherwise◌}
use Rattle.whole.specs.Bits.{bit, fewest}
use Rattle.circuit.specs.declared.Counts.{Counts}
use Rattle.circuit.specs.Literals.{Lit, plus, minus, slot, slots_of}
use Rattle.circuit.specs.Circuits.{gates, clauses_from}
use Rattle.circuit.specs.Counting.{◌⊕◌, nothing, a_product, an_expansion, the_first}
use Rattle.circuit.proofs.Wellformed.{var}
use Rattle.circuit.proofs.Bounds.{bound, Lits}
use Rattle.circuit.proofs.Costs.{product_cost}
use Rattle.circuit.proofs.Lengths.{slots_of_append, cost_sound}
use Rattle.sheet.specs.declared.Kind.{Kind}
use Rattle.sheet.specs.declared.Kind.TheVariants.{BooleanConstant, BooleanUnknown, NaturalUnknown, IntegerUnknown, NumberConstant, Not, And, Or, Implies, Iff, Sum, Difference, Product, Choice, Greater, Equal}
use Rattle.sheet.specs.declared.Fields.{Fields}
use Rattle.sheet.specs.declared.Record.{Record}
use Rattle.sheet.specs.Rows.{uses, is_unknown}
use Rattle.sheet.specs.Values.{unknowns}
use Rattle.sheet.specs.Acceptance.{meeting, bringing, plan_by, record_at}
use Rattle.sheet.specs.Steps.{steps, cells, clauses_but_last, last_clause, clauses, slots_for, map_for}
use Rattle.sheet.proofs.Accepted.{Passed, passes_narrow, passed_many, accepted_tells}
use Rattle.sheet.proofs.Pages.{NarrowRecords, pages_long, narrow_cells}
use Rattle.sheet.proofs.Counted.{cells_many}
use Rattle.sheet.proofs.Total.{whole_table}
use Rattle.promise.specs.Promise.{Among, CountsAreMade, ProductMakes}
use Rattle.promise.proofs.Long.{all_long}

-- ---- the unknowns

expansion_asks : (w f : ℕ) → (an_expansion w f).unknowns ≡ 0
unfolding an_expansion a_product
expansion_asks w f = go (eqb f 1)
  where
    go : (b : Bool) → (if b then nothing otherwise a_product (w + fewest (pos f))).unknowns ≡ 0
    go true = refl
    go false = refl

bringing_asks : (a b : Record) → (bringing a b).unknowns ≡ 0
bringing_asks a b = omega (arith, expansion_asks a.width (meeting a b / a.denominator), expansion_asks b.width (meeting a b / b.denominator))

plan_asks : (k : Kind) (p x y z : ℕ) (a b c : Record) → (plan_by k p x y z a b c).counts.unknowns ≡ bit (is_unknown (uses k))
unfolding a_product
plan_asks BooleanConstant p x y z a b c = refl
plan_asks BooleanUnknown p x y z a b c = refl
plan_asks NaturalUnknown p x y z a b c = refl
plan_asks IntegerUnknown p x y z a b c = refl
plan_asks NumberConstant p x y z a b c = refl
plan_asks Not p x y z a b c = refl
plan_asks And p x y z a b c = refl
plan_asks Or p x y z a b c = refl
plan_asks Implies p x y z a b c = refl
plan_asks Iff p x y z a b c = refl
plan_asks Sum p x y z a b c = omega (arith, bringing_asks a b)
plan_asks Difference p x y z a b c = omega (arith, bringing_asks a b)
plan_asks Product p x y z a b c = refl
plan_asks Choice p x y z a b c = omega (arith, bringing_asks b c)
plan_asks Greater p x y z a b c = omega (arith, bringing_asks a b)
plan_asks Equal p x y z a b c = omega (arith, bringing_asks a b)

one_more : (b : Bool) (f : Fields) (fs : List Fields) → length (if b then f ∷ fs otherwise fs) ≡ bit b + length fs
one_more true f fs = omega arith
one_more false f fs = omega arith

unknowns_counted : (rows : List Fields) (rs : List Record) (so : Counts) (records : List Record) (total : Counts) → Passed rs so rows records total
    → total.unknowns ≡ so.unknowns + length (unknowns rows)
unknowns_counted [] rs so records total p = let e = ap (λ (k : Counts). k.unknowns) p.1 in omega arith
unknowns_counted (f ∷ rows) rs so records total p =
    let ih = unknowns_counted rows (rs ++ p.0 ∷ []) (so ⊕ p.1) records total p.3 in
    let e : p.1.unknowns ≡ bit (is_unknown (uses f.kind)) = ap (λ (k : Counts). k.unknowns) p.2.is_counts ∙ plan_asks f.kind f.p f.x f.y f.z (record_at rs f.x) (record_at rs f.y) (record_at rs f.z) in
    omega (arith, one_more (is_unknown (uses f.kind)) f (unknowns rows))

-- ---- the map

narrow_snoc : (rs : List Record) (r : Record) → NarrowRecords rs → r.width ≤ 48 → NarrowRecords (rs ++ r ∷ [])
narrow_snoc [] r n h = (h, tt)
narrow_snoc (q ∷ rs) r n h = (n.0, narrow_snoc rs r n.1 h)

pub passed_narrow : (rows : List Fields) (rs : List Record) (so : Counts) (records : List Record) (total : Counts) → Passed rs so rows records total → NarrowRecords rs → NarrowRecords records
passed_narrow [] rs so records total p n = subst NarrowRecords p.0 n
passed_narrow (f ∷ rows) rs so records total p n =
    passed_narrow rows (rs ++ p.0 ∷ []) (so ⊕ p.1) records total p.3 (narrow_snoc rs p.0 n (passes_narrow p.2))

-- what acceptance counts is what the steps make
pub counts_are_made : CountsAreMade
unfolding clauses_but_last last_clause clauses slots_for map_for
counts_are_made table sheet e =
    let a = accepted_tells table sheet e in
    let w = whole_table sheet a.total a.passed in
    let but = clauses_from 0 (gates 0 (steps sheet.rows)) in
    let many = passed_many sheet.rows [] the_first sheet.records a.total a.passed in
    let narrow = narrow_cells _ sheet.records (cells sheet.rows) w.fit (passed_narrow sheet.rows [] the_first sheet.records a.total a.passed tt) in
    let k = ap (λ (c : Counts). c.unknowns) a.counted in
    let v = ap (λ (c : Counts). c.variables) a.counted in
    let c = ap (λ (c : Counts). c.clauses) a.counted in
    let l = ap (λ (c : Counts). c.slots) a.counted in
    record {
      unknown = omega (arith, unknowns_counted sheet.rows [] the_first sheet.records a.total a.passed);
      variables = omega arith;
      clause = omega (arith, length-append but (last_clause sheet.rows ∷ []));
      slot = rw (slots_of_append but (last_clause sheet.rows ∷ [])) (omega (arith, length-append (slots_of but) (slots_of (last_clause sheet.rows ∷ []))));
      places = omega (arith, pages_long (cells sheet.rows) narrow, cells_many _ sheet.records (cells sheet.rows) w.fit);
      records = omega arith;
      long = all_long sheet a.total a.passed;
    }

-- ---- a product

number_of : (l : Lit) → nat_abs (slot l) ≡ suc (var l)
number_of (plus i) = refl
number_of (minus i) = refl

among_bound : (n : ℕ) (ls : List Lit) → Among n ls → bound ls ≤ n
among_bound n [] a = omega arith
among_bound n (l ∷ ls) a = omega (arith, a.0, number_of l, among_bound n ls a.1)

among_lits : (n : ℕ) (ls : List Lit) → Among n ls → Lits n (length ls) ls
among_lits n ls a = record { low = among_bound n ls a; size = refl }

-- the product's formulas are what its steps make
pub product_makes : ProductMakes
unfolding a_product
product_makes n w xs ys h a b p q e =
    let made = (cost_sound (product_cost (record { place = n; asked = 0; clauses = 0; slots = 0 }) h p q (among_lits n xs a) (among_lits n ys b))).1.0 in
    rw (← e) (omega (arith, made), omega (arith, made))
