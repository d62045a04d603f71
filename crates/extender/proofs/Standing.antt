-- Operands that stand for the rows that a row refers to: where the row passes they are ready, and its gates hold of them what they hold of
-- those rows. Assumes nothing.
use mathlib.Core.Path.{◌≡◌, refl, ap, ap₂, ◌∙◌}
use mathlib.Core.Bool.{Bool, true, false, not, ◌||◌}
use mathlib.Core.List.{List, [], ◌∷◌}
use Prim.Native.Nat.{ℕ, ◌+◌, ◌/◌, ◌≤◌, ◌<◌}
use native.Mathlib.Omega.{arith}
use borrow.Author.Tests.{leb-false}
use lib.Dec.{eqb, leb}
use lib.IntN.{ℤ, pos}
use lib.ListN.{length}
use Rattle.whole.specs.Tests.{if◌then◌otherwise◌, eq_z}
use Rattle.whole.specs.Bits.{fewest}
use Rattle.whole.proofs.Tests.{bit_true}
use Rattle.whole.proofs.Ranges.{fits_up}
use Rattle.circuit.specs.declared.Counts.{Counts}
use Rattle.circuit.specs.Counting.{expanded_width}
use Rattle.sheet.specs.declared.Kind.{Kind}
use Rattle.sheet.specs.declared.Kind.TheVariants.{BooleanConstant, BooleanUnknown, NaturalUnknown, IntegerUnknown, NumberConstant}
use Rattle.sheet.specs.declared.Kind.TheVariants.{Not, And, Or, Implies, Iff, Sum, Difference, Product, Choice, Greater, Equal}
use Rattle.sheet.specs.declared.Fields.{Fields}
use Rattle.sheet.specs.declared.Record.{Record}
use Rattle.sheet.specs.declared.References.{References}
use Rattle.sheet.specs.Rows.{uses}
use Rattle.sheet.specs.Values.{Value, boolean, fraction, numerator, denominator, value_at}
use Rattle.sheet.specs.Acceptance.{sorts_in, some_not_earlier, record_at}
use Rattle.sheet.proofs.Accepted.{sort_at, meeting_at, larger_at, plan_at, Sorted, Passes}
use Rattle.sheet.proofs.Tested.{neither, right_sort, two_sorts}
use Rattle.sheet.proofs.Widths.{Holds, AllHold, hold_at, number_at, pair_fits}
use Rattle.numbers.proofs.Limits.{limits}
use Rattle.trace.specs.Traces.{trace_by, trace_of}
use Rattle.number_extender.specs.declared.Operand.{Operand}
use Rattle.number_extender.specs.Operands.{IsNumber, Meeting}
use Rattle.row_extender.specs.Ready.{of_sort, value_of, trace_over, IsBoolean, Ready}

-- an operand for row x: its record among the earlier ones and its value's numerator; it is false if x is not earlier
pub record Stands (earlier : List Record) (values : List Value) (x : ℕ) (o : Operand) : Type 0 where
  pub is_record : o.record ≡ record_at earlier x
  pub is_numerator : o.numerator ≡ numerator (value_at values x)

value_back : (r : Record) (v : Value) (o : Operand) → Holds r v → o.record ≡ r → o.numerator ≡ numerator v → value_of o ≡ v
value_back r (boolean b) o h e f = ap (λ (s : ℕ). of_sort s o) (ap (λ (q : Record). q.sort) e ∙ h.0) ∙ ap boolean (ap (λ n. eq_z n (pos 1)) f ∙ bit_true b)
value_back r (fraction n d) o h e f = ap (λ (s : ℕ). of_sort s o) (ap (λ (q : Record). q.sort) e ∙ h.sort) ∙ ap₂ fraction f (ap (λ (q : Record). q.denominator) e ∙ h.denominator)

-- expanding makes no number narrower
wide_least : (w f : ℕ) → w ≤ expanded_width w f
unfolding expanded_width
wide_least w f = by (eqb f 1)
  where
    by : (b : Bool) → w ≤ (if b then w otherwise w + fewest (pos f))
    by true = omega arith
    by false = omega arith

-- a reference that is earlier, and the test of the others
first_named : (rows x : ℕ) (rest : Bool) → (leb rows x || rest) ≡ false → (x < rows) × (rest ≡ false)
first_named rows x rest e = let (here, others) = neither (leb rows x) rest e in (leb-false rows x here, others)

two_named : (rows x y : ℕ) → (leb rows x || (leb rows y || false)) ≡ false → (x < rows) × (y < rows)
two_named rows x y e = let (hx, rest) = first_named rows x _ e in (hx, (first_named rows y false rest).0)

module _ (earlier : List Record) (values : List Value) (h : AllHold earlier values) where
  is_boolean : (x : ℕ) {o : Operand} → Stands earlier values x o → sort_at earlier x ≡ 0 → IsBoolean o
  is_boolean x s e = ap (λ (r : Record). r.sort) s.is_record ∙ e

  is_number : (x : ℕ) {o : Operand} → Stands earlier values x o → sort_at earlier x ≡ 1 → (record_at earlier x).width ≤ 48 → IsNumber o
  is_number x s x_is narrow =
      let n = number_at earlier values h x x_is in
      record {
        sort = ap (λ (r : Record). r.sort) s.is_record ∙ x_is;
        some = rw s.is_record n.wide;
        narrow = rw s.is_record narrow;
        fits = rw s.is_numerator (fits_up narrow n.fits);
      }

  -- two numbers brought together
  meets : (x y : ℕ) {a b : Operand} → (sort_at earlier x ≡ 1) × (sort_at earlier y ≡ 1) → Stands earlier values x a × Stands earlier values y b → meeting_at earlier x y ≤ 4096
      → larger_at earlier x y ≤ 48 → Meeting a b
  meets x y {a} {b} (x_is, y_is) (s, t) m w =
      let p = number_at earlier values h x x_is in
      let q = number_at earlier values h y y_is in
      let (over_x, over_y) = limits (record_at earlier x).denominator (record_at earlier y).denominator (omega (arith, p.denominator, p.positive)) (omega (arith, q.denominator, q.positive)) m in
      let (fits_x, fits_y) = pair_fits earlier values h x y x_is y_is in
      let ea : a.record.denominator ≡ denominator (value_at values x) = ap (λ (r : Record). r.denominator) s.is_record ∙ p.denominator in
      let eb : b.record.denominator ≡ denominator (value_at values y) = ap (λ (r : Record). r.denominator) t.is_record ∙ q.denominator in
      record {
        first = is_number x s x_is (omega (arith, wide_least (record_at earlier x).width (meeting_at earlier x y / (record_at earlier x).denominator)));
        second = is_number y t y_is (omega (arith, wide_least (record_at earlier y).width (meeting_at earlier x y / (record_at earlier y).denominator)));
        first_over = rw s.is_record over_x;
        second_over = rw t.is_record over_y;
        narrow = rw (s.is_record, t.is_record) w;
        left_fits = rw (ea, eb, s.is_numerator) (fits_up (omega arith) fits_x);
        right_fits = rw (ea, eb, t.is_numerator) (fits_up (omega arith) fits_y);
      }

  sorts : (s x y : ℕ) → (not (eqb (sort_at earlier x) s) || (not (eqb (sort_at earlier y) s) || false)) ≡ false → (sort_at earlier x ≡ s) × (sort_at earlier y ≡ s)
  sorts s x y e = two_sorts (sort_at earlier x) s (sort_at earlier y) s e

  truths : (x y : ℕ) {a b : Operand} → (sort_at earlier x ≡ 0) × (sort_at earlier y ≡ 0) → Stands earlier values x a × Stands earlier values y b → IsBoolean a × IsBoolean b
  truths x y (x_is, y_is) (s, t) = (is_boolean x s x_is, is_boolean y t y_is)

  pub stands_value : (x : ℕ) {o : Operand} → Stands earlier values x o → value_of o ≡ value_at values x
  stands_value x {o} s = value_back (record_at earlier x) (value_at values x) o (hold_at earlier values h x) s.is_record s.is_numerator

  -- where the row x is an earlier one
  abbrev pub Given : ℕ → Operand → Type 0
  Given x o = x < length earlier → Stands earlier values x o

  -- where row x is an earlier one, its record is the same among all
  abbrev pub Own : List Record → ℕ → Type 0
  Own records x = x < length earlier → record_at earlier x ≡ record_at records x

  -- the references that the tests of a row let pass
  two : (x y : ℕ) {a b : Operand} → (leb (length earlier) x || (leb (length earlier) y || false)) ≡ false → Given x a → Given y b → Stands earlier values x a × Stands earlier values y b
  two x y named at_x at_y = let (hx, hy) = two_named (length earlier) x y named in (at_x hx, at_y hy)

  module _ (of : References Operand) where
    -- by kinds, with the fields as variables, because a field of a row cannot be matched
    ready_by : (k : Kind) (p x y z : ℕ) → some_not_earlier (length earlier) (sorts_in (uses k)) (x ∷ y ∷ z ∷ []) ≡ false → Sorted earlier k x y z
        → (plan_at earlier k p x y z).common ≤ 4096 → (plan_at earlier k p x y z).widest ≤ 48 → Given x of.x → Given y of.y → Given z of.z → Ready k of
    ready_by BooleanConstant p x y z named sorted m w at_x at_y at_z = tt
    ready_by BooleanUnknown p x y z named sorted m w at_x at_y at_z = tt
    ready_by NaturalUnknown p x y z named sorted m w at_x at_y at_z = tt
    ready_by IntegerUnknown p x y z named sorted m w at_x at_y at_z = tt
    ready_by NumberConstant p x y z named sorted m w at_x at_y at_z = tt
    ready_by Not p x y z named sorted m w at_x at_y at_z = tt
    ready_by And p x y z named sorted m w at_x at_y at_z = truths x y (sorts 0 x y sorted) (two x y named at_x at_y)
    ready_by Or p x y z named sorted m w at_x at_y at_z = truths x y (sorts 0 x y sorted) (two x y named at_x at_y)
    ready_by Implies p x y z named sorted m w at_x at_y at_z = truths x y (sorts 0 x y sorted) (two x y named at_x at_y)
    ready_by Iff p x y z named sorted m w at_x at_y at_z = truths x y (sorts 0 x y sorted) (two x y named at_x at_y)
    ready_by Sum p x y z named sorted m w at_x at_y at_z = meets x y (sorts 1 x y sorted) (two x y named at_x at_y) m (omega arith)
    ready_by Difference p x y z named sorted m w at_x at_y at_z = meets x y (sorts 1 x y sorted) (two x y named at_x at_y) m (omega arith)
    ready_by Product p x y z named sorted m w at_x at_y at_z =
        let (x_is, y_is) = sorts 1 x y sorted in
        let (s, t) = two x y named at_x at_y in
        (is_number x s x_is (omega arith), is_number y t y_is (omega arith))
    ready_by Choice p x y z named sorted m w at_x at_y at_z =
        let (x_is, others) = right_sort (sort_at earlier x) 0 _ sorted in
        let (hx, rest) = first_named (length earlier) x _ named in
        (is_boolean x (at_x hx) x_is, meets y z (sorts 1 y z others) (two y z rest at_y at_z) m w)
    ready_by Greater p x y z named sorted m w at_x at_y at_z = meets x y (sorts 1 x y sorted) (two x y named at_x at_y) m w
    ready_by Equal p x y z named sorted m w at_x at_y at_z = meets x y (sorts 1 x y sorted) (two x y named at_x at_y) m w

    -- a row that passes behind the earlier ones is ready
    pub row_ready : {first : ℕ} {f : Fields} {r : Record} {k : Counts} → Passes earlier first f r k → Given f.x of.x → Given f.y of.y → Given f.z of.z → Ready f.kind of
    row_ready {f = f} passes at_x at_y at_z = ready_by f.kind f.p f.x f.y f.z passes.named passes.sorted passes.common passes.widest at_x at_y at_z

    module _ (records : List Record) where
      -- what is said of two operands is said of their rows
      same_two : {B : Type 0} (say : Record → Record → Value → Value → B) (x y : ℕ) {a b : Operand} → (x < length earlier) × (y < length earlier) → Own records x × Own records y → Given x a → Given y b
          → say a.record b.record (value_of a) (value_of b) ≡ say (record_at records x) (record_at records y) (value_at values x) (value_at values y)
      same_two say x y {a} {b} (hx, hy) (own_x, own_y) at_x at_y =
          let s = at_x hx in
          let t = at_y hy in
          ap₂ (λ (i j : Record). say i j (value_of a) (value_of b)) (s.is_record ∙ own_x hx) (t.is_record ∙ own_y hy) ∙ ap₂ (say (record_at records x) (record_at records y)) (stands_value x s) (stands_value y t)

      abbrev over_rows : Kind → (p x y z : ℕ) → ℤ → List Bool
      over_rows k p x y z v = trace_by k p (record_at records x) (record_at records y) (record_at records z) (value_at values x) (value_at values y) (value_at values z) v

      abbrev over_operands : Kind → (p : ℕ) → ℤ → List Bool
      over_operands k p v = trace_by k p of.x.record of.y.record of.z.record (value_of of.x) (value_of of.y) (value_of of.z) v

      -- of two operands
      traced : (k : Kind) (p x y z : ℕ) (v : ℤ) → (leb (length earlier) x || (leb (length earlier) y || false)) ≡ false → Own records x × Own records y → Given x of.x → Given y of.y
          → trace_by k p of.x.record of.y.record of.z.record (value_of of.x) (value_of of.y) (value_of of.z) v ≡ trace_by k p (record_at records x) (record_at records y) of.z.record (value_at values x) (value_at values y) (value_of of.z) v
      traced k p x y z v named own at_x at_y = same_two (λ a b i j. trace_by k p a b of.z.record i j (value_of of.z) v) x y (two_named (length earlier) x y named) own at_x at_y

      trace_is : (k : Kind) (p x y z : ℕ) (v : ℤ) → some_not_earlier (length earlier) (sorts_in (uses k)) (x ∷ y ∷ z ∷ []) ≡ false → Own records x × Own records y → Own records z → Given x of.x → Given y of.y → Given z of.z
          → over_operands k p v ≡ over_rows k p x y z v
      trace_is BooleanConstant p x y z v named own own_z at_x at_y at_z = refl
      trace_is BooleanUnknown p x y z v named own own_z at_x at_y at_z = refl
      trace_is NaturalUnknown p x y z v named own own_z at_x at_y at_z = refl
      trace_is IntegerUnknown p x y z v named own own_z at_x at_y at_z = refl
      trace_is NumberConstant p x y z v named own own_z at_x at_y at_z = refl
      trace_is Not p x y z v named own own_z at_x at_y at_z = refl
      trace_is And p x y z v named own own_z at_x at_y at_z = traced And p x y z v named own at_x at_y
      trace_is Or p x y z v named own own_z at_x at_y at_z = traced Or p x y z v named own at_x at_y
      trace_is Implies p x y z v named own own_z at_x at_y at_z = traced Implies p x y z v named own at_x at_y
      trace_is Iff p x y z v named own own_z at_x at_y at_z = traced Iff p x y z v named own at_x at_y
      trace_is Sum p x y z v named own own_z at_x at_y at_z = traced Sum p x y z v named own at_x at_y
      trace_is Difference p x y z v named own own_z at_x at_y at_z = traced Difference p x y z v named own at_x at_y
      trace_is Product p x y z v named own own_z at_x at_y at_z = traced Product p x y z v named own at_x at_y
      trace_is Choice p x y z v named own own_z at_x at_y at_z =
          let (hx, rest) = first_named (length earlier) x _ named in
          let a = of.x.record in
          ap (λ (k : Value). trace_by Choice p a of.y.record of.z.record k (value_of of.y) (value_of of.z) v) (stands_value x (at_x hx))
          ∙ same_two (λ b c i j. trace_by Choice p a b c (value_at values x) i j v) y z (two_named (length earlier) y z rest) (own.1, own_z) at_y at_z
      trace_is Greater p x y z v named own own_z at_x at_y at_z = traced Greater p x y z v named own at_x at_y
      trace_is Equal p x y z v named own own_z at_x at_y at_z = traced Equal p x y z v named own at_x at_y

      -- the gates of a row that passes behind the earlier ones hold of its operands what they hold of its rows
      pub row_trace : {first : ℕ} {f : Fields} {r : Record} {k : Counts} → Passes earlier first f r k → Own records f.x → Own records f.y → Own records f.z → Given f.x of.x → Given f.y of.y → Given f.z of.z
          → (v : ℤ) → trace_over f of v ≡ trace_of records values f v
      unfolding trace_over trace_of
      row_trace {f = f} passes own_x own_y own_z at_x at_y at_z v = trace_is f.kind f.p f.x f.y f.z v passes.named (own_x, own_y) own_z at_x at_y at_z
