-- Rows that were accepted: a row's operands meet what its numerator asks, and at them its value is the paper's. Assumes nothing.
use mathlib.Core.Path.{◌≡◌, refl, sym, ◌∙◌, ap, ap₂, subst₂}
use mathlib.Core.Bool.{Bool, false, not, ◌||◌}
use mathlib.Core.List.{List, [], ◌∷◌}
use Prim.Native.Nat.{ℕ, ◌≤◌, ◌<◌}
use native.Mathlib.Omega.{arith}
use borrow.Author.Tests.{leb-false}
use lib.Dec.{eqb, leb}
use lib.IntN.{ℤ, pos}
use lib.ListN.{length}
use Rattle.whole.specs.Tests.{eq_z}
use Rattle.whole.specs.Bits.{Fits}
use Rattle.whole.proofs.Tests.{bit_true}
use Rattle.whole.proofs.Ranges.{fits_up, product_fits}
use Rattle.circuit.specs.declared.Counts.{Counts}
use Rattle.sheet.specs.declared.Kind.{Kind}
use Rattle.sheet.specs.declared.Kind.TheVariants.{BooleanConstant, BooleanUnknown, NaturalUnknown, IntegerUnknown, NumberConstant}
use Rattle.sheet.specs.declared.Kind.TheVariants.{Not, And, Or, Implies, Iff, Sum, Difference, Product, Choice, Greater, Equal}
use Rattle.sheet.specs.declared.Fields.{Fields}
use Rattle.sheet.specs.declared.Record.{Record}
use Rattle.sheet.specs.declared.References.{References}
use Rattle.sheet.specs.Rows.{uses}
use Rattle.sheet.specs.Values.{Value, boolean, fraction, truth_of, numerator, shared, over, value_by, value_at, row_val}
use Rattle.sheet.specs.Acceptance.{sorts_in, some_not_earlier, record_at}
use Rattle.sheet.proofs.Accepted.{sort_at, meeting_at, larger_at, plan_at, Sorted, Passes}
use Rattle.sheet.proofs.Tested.{neither, right_sort, two_sorts}
use Rattle.sheet.proofs.Widths.{Holds, AllHold, hold_at, number_at, pair_fits}
use Rattle.numbers.proofs.Limits.{limits}
use Rattle.row_value.specs.declared.Operand.{Operand}
use Rattle.row_value.specs.Operands.{is_true, number, value_over, row_over, Meeting, Ready}

-- an operand that stands for the row x: the numerator of its value, the denominator of its record
pub record OperandAt (earlier : List Record) (values : List Value) (x : ℕ) (o : Operand) : Type 0 where
  pub is_numerator : o.numerator ≡ numerator (value_at values x)
  pub is_denominator : o.denominator ≡ (record_at earlier x).denominator

-- a value of a known sort, from its numerator and its record's denominator
truth_back : (r : Record) (v : Value) {n : ℤ} → Holds r v → r.sort ≡ 0 → n ≡ numerator v → boolean (eq_z n (pos 1)) ≡ v
truth_back r (boolean b) h s e = ap boolean (ap (λ n. eq_z n (pos 1)) e ∙ bit_true b)
truth_back r (fraction n d) h s e = absurd (omega (arith, h.sort))

number_back : (r : Record) (v : Value) {n : ℤ} {d : ℕ} → Holds r v → r.sort ≡ 1 → n ≡ numerator v → d ≡ r.denominator → fraction n d ≡ v
number_back r (boolean b) h s e f = absurd (omega arith)
number_back r (fraction n d) h s e f = ap₂ fraction e (f ∙ h.denominator)

-- the references of a row that are earlier
first_named : (rows x : ℕ) (rest : Bool) → (leb rows x || rest) ≡ false → (x < rows) × (rest ≡ false)
first_named rows x rest e = let (here, others) = neither (leb rows x) rest e in (leb-false rows x here, others)

module _ (earlier : List Record) (values : List Value) (h : AllHold earlier values) where
  truth_at : (x : ℕ) {o : Operand} → OperandAt earlier values x o → sort_at earlier x ≡ 0 → boolean (is_true o) ≡ value_at values x
  truth_at x a s = truth_back (record_at earlier x) (value_at values x) (hold_at earlier values h x) s a.is_numerator

  value_at_lem : (x : ℕ) {o : Operand} → OperandAt earlier values x o → sort_at earlier x ≡ 1 → number o ≡ value_at values x
  value_at_lem x a s = number_back (record_at earlier x) (value_at values x) (hold_at earlier values h x) s a.is_numerator a.is_denominator

  -- two numbers brought together
  meets : (x y : ℕ) {a b : Operand} → (sort_at earlier x ≡ 1) × (sort_at earlier y ≡ 1) → OperandAt earlier values x a × OperandAt earlier values y b
      → meeting_at earlier x y ≤ 4096 → larger_at earlier x y ≤ 48 → Meeting a b
  meets x y (x_is, y_is) (at_x, at_y) m w =
      let p = number_at earlier values h x x_is in
      let q = number_at earlier values h y y_is in
      let (left, right) = limits (record_at earlier x).denominator (record_at earlier y).denominator (omega (arith, p.denominator, p.positive)) (omega (arith, q.denominator, q.positive)) m in
      let (fits_x, fits_y) = pair_fits earlier values h x y x_is y_is in
      let ex = sym (value_at_lem x at_x x_is) in
      let ey = sym (value_at_lem y at_y y_is) in
      record {
        left = rw at_x.is_denominator left;
        right = rw at_y.is_denominator right;
        left_fits = subst₂ (λ (v w : Value). Fits 48 (over (shared v w) v)) ex ey (fits_up (omega arith) fits_x);
        right_fits = subst₂ (λ (v w : Value). Fits 48 (over (shared v w) w)) ex ey (fits_up (omega arith) fits_y);
      }

  -- what the tests of two references tell of their operands
  abbrev pub Given : ℕ → Operand → Type 0
  Given x o = x < length earlier → OperandAt earlier values x o

  two : (x y : ℕ) {a b : Operand} → (leb (length earlier) x || (leb (length earlier) y || false)) ≡ false → Given x a → Given y b → OperandAt earlier values x a × OperandAt earlier values y b
  two x y named at_x at_y =
      let (hx, rest) = first_named (length earlier) x _ named in
      let (hy, none) = first_named (length earlier) y false rest in
      (at_x hx, at_y hy)

  two_truths : (x y : ℕ) {a b : Operand} → OperandAt earlier values x a × OperandAt earlier values y b → (sort_at earlier x ≡ 0) × (sort_at earlier y ≡ 0)
      → (boolean (is_true a) ≡ value_at values x) × (boolean (is_true b) ≡ value_at values y)
  two_truths x y (at_x, at_y) (x_is, y_is) = (truth_at x at_x x_is, truth_at y at_y y_is)

  two_numbers : (x y : ℕ) {a b : Operand} → OperandAt earlier values x a × OperandAt earlier values y b → (sort_at earlier x ≡ 1) × (sort_at earlier y ≡ 1)
      → (number a ≡ value_at values x) × (number b ≡ value_at values y)
  two_numbers x y (at_x, at_y) (x_is, y_is) = (value_at_lem x at_x x_is, value_at_lem y at_y y_is)

  sorts : (s x y : ℕ) → (not (eqb (sort_at earlier x) s) || (not (eqb (sort_at earlier y) s) || false)) ≡ false → (sort_at earlier x ≡ s) × (sort_at earlier y ≡ s)
  sorts s x y e = two_sorts (sort_at earlier x) s (sort_at earlier y) s e

  module _ (of : References Operand) where
    -- by kinds, with the fields as variables, because a field of a row cannot be matched
    ready_by : (k : Kind) (p x y z : ℕ) → some_not_earlier (length earlier) (sorts_in (uses k)) (x ∷ y ∷ z ∷ []) ≡ false → Sorted earlier k x y z
        → (plan_at earlier k p x y z).common ≤ 4096 → (plan_at earlier k p x y z).widest ≤ 48 → Given x of.x → Given y of.y → Given z of.z → Ready k of
    ready_by BooleanConstant p x y z named sorted m w at_x at_y at_z = tt
    ready_by BooleanUnknown p x y z named sorted m w at_x at_y at_z = tt
    ready_by NaturalUnknown p x y z named sorted m w at_x at_y at_z = tt
    ready_by IntegerUnknown p x y z named sorted m w at_x at_y at_z = tt
    ready_by NumberConstant p x y z named sorted m w at_x at_y at_z = tt
    ready_by Not p x y z named sorted m w at_x at_y at_z = tt
    ready_by And p x y z named sorted m w at_x at_y at_z = tt
    ready_by Or p x y z named sorted m w at_x at_y at_z = tt
    ready_by Implies p x y z named sorted m w at_x at_y at_z = tt
    ready_by Iff p x y z named sorted m w at_x at_y at_z = tt
    ready_by Sum p x y z named sorted m w at_x at_y at_z = meets x y (sorts 1 x y sorted) (two x y named at_x at_y) m (omega arith)
    ready_by Difference p x y z named sorted m w at_x at_y at_z = meets x y (sorts 1 x y sorted) (two x y named at_x at_y) m (omega arith)
    ready_by Product p x y z named sorted m w at_x at_y at_z =
        let (x_is, y_is) = sorts 1 x y sorted in
        let (u, v) = two x y named at_x at_y in
        let i = number_at earlier values h x x_is in
        let j = number_at earlier values h y y_is in
        rw (u.is_numerator, v.is_numerator) (fits_up w (product_fits i.wide j.wide i.fits j.fits))
    ready_by Choice p x y z named sorted m w at_x at_y at_z =
        meets y z (sorts 1 y z (right_sort (sort_at earlier x) 0 _ sorted).1) (two y z (first_named (length earlier) x _ named).1 at_y at_z) m w
    ready_by Greater p x y z named sorted m w at_x at_y at_z = meets x y (sorts 1 x y sorted) (two x y named at_x at_y) m w
    ready_by Equal p x y z named sorted m w at_x at_y at_z = meets x y (sorts 1 x y sorted) (two x y named at_x at_y) m w

    value_by_lem : (k : Kind) (p x y z : ℕ) → some_not_earlier (length earlier) (sorts_in (uses k)) (x ∷ y ∷ z ∷ []) ≡ false → Sorted earlier k x y z
        → Given x of.x → Given y of.y → Given z of.z → (v : ℤ) → value_over of k p x y z v ≡ value_by k p x y z (value_at values x) (value_at values y) (value_at values z) v
    value_by_lem BooleanConstant p x y z named sorted at_x at_y at_z v = refl
    value_by_lem BooleanUnknown p x y z named sorted at_x at_y at_z v = refl
    value_by_lem NaturalUnknown p x y z named sorted at_x at_y at_z v = refl
    value_by_lem IntegerUnknown p x y z named sorted at_x at_y at_z v = refl
    value_by_lem NumberConstant p x y z named sorted at_x at_y at_z v = refl
    value_by_lem Not p x y z named sorted at_x at_y at_z v =
        ap (λ (u : Value). boolean (not (truth_of u))) (truth_at x (at_x (first_named (length earlier) x false named).0) (right_sort (sort_at earlier x) 0 false sorted).0)
    value_by_lem And p x y z named sorted at_x at_y at_z v = let (u, w) = two_truths x y (two x y named at_x at_y) (sorts 0 x y sorted) in ap₂ (λ i j. value_by And p x y z i j j v) u w
    value_by_lem Or p x y z named sorted at_x at_y at_z v = let (u, w) = two_truths x y (two x y named at_x at_y) (sorts 0 x y sorted) in ap₂ (λ i j. value_by Or p x y z i j j v) u w
    value_by_lem Implies p x y z named sorted at_x at_y at_z v = let (u, w) = two_truths x y (two x y named at_x at_y) (sorts 0 x y sorted) in ap₂ (λ i j. value_by Implies p x y z i j j v) u w
    value_by_lem Iff p x y z named sorted at_x at_y at_z v = let (u, w) = two_truths x y (two x y named at_x at_y) (sorts 0 x y sorted) in ap₂ (λ i j. value_by Iff p x y z i j j v) u w
    value_by_lem Sum p x y z named sorted at_x at_y at_z v = let (u, w) = two_numbers x y (two x y named at_x at_y) (sorts 1 x y sorted) in ap₂ (λ i j. value_by Sum p x y z i j j v) u w
    value_by_lem Difference p x y z named sorted at_x at_y at_z v = let (u, w) = two_numbers x y (two x y named at_x at_y) (sorts 1 x y sorted) in ap₂ (λ i j. value_by Difference p x y z i j j v) u w
    value_by_lem Product p x y z named sorted at_x at_y at_z v = let (u, w) = two_numbers x y (two x y named at_x at_y) (sorts 1 x y sorted) in ap₂ (λ i j. value_by Product p x y z i j j v) u w
    value_by_lem Choice p x y z named sorted at_x at_y at_z v =
        let (hx, rest) = first_named (length earlier) x _ named in
        let (x_is, others) = right_sort (sort_at earlier x) 0 _ sorted in
        let (u, w) = two_numbers y z (two y z rest at_y at_z) (sorts 1 y z others) in
        ap (λ i. value_by Choice p x y z i (number of.y) (number of.z) v) (truth_at x (at_x hx) x_is) ∙ ap₂ (λ i j. value_by Choice p x y z (value_at values x) i j v) u w
    value_by_lem Greater p x y z named sorted at_x at_y at_z v = let (u, w) = two_numbers x y (two x y named at_x at_y) (sorts 1 x y sorted) in ap₂ (λ i j. value_by Greater p x y z i j j v) u w
    value_by_lem Equal p x y z named sorted at_x at_y at_z v = let (u, w) = two_numbers x y (two x y named at_x at_y) (sorts 1 x y sorted) in ap₂ (λ i j. value_by Equal p x y z i j j v) u w

    -- a row that passes, where its operands stand for the earlier rows that it refers to
    module _ (first : ℕ) (f : Fields) (r : Record) (k : Counts) (passes : Passes earlier first f r k) (at_x : Given f.x of.x) (at_y : Given f.y of.y) (at_z : Given f.z of.z) where
      pub row_ready : Ready f.kind of
      row_ready = ready_by f.kind f.p f.x f.y f.z passes.named passes.sorted passes.common passes.widest at_x at_y at_z

      pub row_value : (v : ℤ) → row_over of f v ≡ row_val values f v
      unfolding row_over row_val
      row_value v = value_by_lem f.kind f.p f.x f.y f.z passes.named passes.sorted at_x at_y at_z v
