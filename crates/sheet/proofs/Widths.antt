-- Every row's value fits the width that its record gives, and so does every numerator brought to a common denominator. Assumes nothing.
use mathlib.Core.Path.{◌≡◌, refl}
use mathlib.Core.Bool.{Bool, true, false}
use mathlib.Core.List.{List, [], ◌∷◌, ◌++◌}
use Prim.Native.Nat.{ℕ, zero, suc, ◌+◌, ◌<◌}
use native.Mathlib.Omega.{arith}
use native.Mathlib.Numerals.{add-one}
use native.Mathlib.Nat.{mul-pos}
use lib.Dec.{T, eqb, eqb→eq}
use lib.IntN.{ℤ, pos, ◌*ℤ◌, one, *ℤ-one}
use Rattle.whole.specs.Tests.{if◌then◌otherwise◌}
use Rattle.whole.specs.Bits.{Fits, fewest}
use Rattle.whole.proofs.Divisors.{lcm-pos}
use Rattle.whole.proofs.Ranges.{natural_fits, sum_fits, difference_fits, choice_fits, product_fits, fewest_fits}
use Rattle.circuit.specs.Counting.{expanded_width}
use Rattle.circuit.specs.declared.Counts.{Counts}
use Rattle.circuit.proofs.Costs.{expanded_width-pos}
use Rattle.sheet.specs.declared.Kind.{Kind}
use Rattle.sheet.specs.declared.Kind.TheVariants.{BooleanConstant, BooleanUnknown, NaturalUnknown, IntegerUnknown, NumberConstant}
use Rattle.sheet.specs.declared.Kind.TheVariants.{Not, And, Or, Implies, Iff, Sum, Difference, Product, Choice, Greater, Equal}
use Rattle.sheet.specs.declared.Fields.{Fields}
use Rattle.sheet.specs.declared.Record.{Record}
use Rattle.sheet.specs.Rows.{constant_in, uses}
use Rattle.sheet.specs.Values.{Value, boolean, fraction, truth_of, numerator, denominator, shared, over, value_by, value_at, row_val, in_bits}
use Rattle.sheet.specs.Acceptance.{outside, out_of_range, width_over, record_by, record_at}
use Rattle.sheet.proofs.Accepted.{sort_at, meeting_at, plan_at, Sorted, Passes}
use Rattle.sheet.proofs.Tested.{neither, at_least, right_sort, two_sorts, natural_in, integer_in}

-- ---- a row's record holds its value

pub record HoldsNumber (r : Record) (n : ℤ) (d : ℕ) : Type 0 where
  pub sort : r.sort ≡ 1
  pub fits : Fits r.width n
  pub denominator : r.denominator ≡ d
  pub wide : 0 < r.width
  pub positive : 0 < d

abbrev pub Holds : Record → Value → Type 0
Holds r (boolean b) = (r.sort ≡ 0) × (r.denominator ≡ 1)
Holds r (fraction n d) = HoldsNumber r n d

abbrev pub AllHold : List Record → List Value → Type 0
AllHold [] [] = Unit {0}
AllHold [] (v ∷ vs) = ⊥
AllHold (r ∷ rs) [] = ⊥
AllHold (r ∷ rs) (v ∷ vs) = Holds r v × AllHold rs vs

pub all_hold_snoc : (rs : List Record) (vs : List Value) (r : Record) (v : Value) → AllHold rs vs → Holds r v → AllHold (rs ++ r ∷ []) (vs ++ v ∷ [])
all_hold_snoc [] [] r v h k = (k, tt)
all_hold_snoc [] (w ∷ vs) r v h k = absurd h
all_hold_snoc (q ∷ rs) [] r v h k = absurd h
all_hold_snoc (q ∷ rs) (w ∷ vs) r v h k = (h.0, all_hold_snoc rs vs r v h.1 k)

pub hold_at : (rs : List Record) (vs : List Value) → AllHold rs vs → (x : ℕ) → Holds (record_at rs x) (value_at vs x)
hold_at [] [] h x = (refl, refl)
hold_at [] (v ∷ vs) h x = absurd h
hold_at (r ∷ rs) [] h x = absurd h
hold_at (r ∷ rs) (v ∷ vs) h zero = h.0
hold_at (r ∷ rs) (v ∷ vs) h (suc x) = hold_at rs vs h.1 x

-- sort 1 is a number
number : (r : Record) (v : Value) → Holds r v → r.sort ≡ 1 → HoldsNumber r (numerator v) (denominator v)
number r (boolean b) h s = absurd (omega arith)
number r (fraction n d) h s = h

-- ---- expanding

pub expansion_fits : {w : ℕ} {x : ℤ} (factor : ℕ) → 0 < w → Fits w x → Fits (expanded_width w factor) (x *ℤ pos factor)
unfolding expanded_width one
expansion_fits {w} {x} factor h p = by (eqb factor 1) (λ t. eqb→eq factor 1 t)
  where
    by : (b : Bool) → (T b → factor ≡ 1) → Fits (if b then w otherwise w + fewest (pos factor)) (x *ℤ pos factor)
    by true e = rw (e tt, *ℤ-one x) p
    by false e = product_fits h (omega arith) p (fewest_fits (pos factor))

-- ---- the rows

module _ (earlier : List Record) (values : List Value) (h : AllHold earlier values) where
  pub number_at : (x : ℕ) → sort_at earlier x ≡ 1 → HoldsNumber (record_at earlier x) (numerator (value_at values x)) (denominator (value_at values x))
  number_at x s = number (record_at earlier x) (value_at values x) (hold_at earlier values h x) s

  module _ (x y : ℕ) (x_is : sort_at earlier x ≡ 1) (y_is : sort_at earlier y ≡ 1) where
    pub meeting_is : meeting_at earlier x y ≡ shared (value_at values x) (value_at values y)
    meeting_is = rw ((number_at x x_is).denominator, (number_at y y_is).denominator)

    pub pair_fits : Fits (width_over (meeting_at earlier x y) (record_at earlier x)) (over (shared (value_at values x) (value_at values y)) (value_at values x))
        × Fits (width_over (meeting_at earlier x y) (record_at earlier y)) (over (shared (value_at values x) (value_at values y)) (value_at values y))
    pair_fits =
        let a = number_at x x_is in
        let b = number_at y y_is in
        rw (a.denominator, b.denominator) (expansion_fits _ a.wide a.fits, expansion_fits _ b.wide b.fits)

    pub pair_wide : (0 < width_over (meeting_at earlier x y) (record_at earlier x)) × (0 < width_over (meeting_at earlier x y) (record_at earlier y))
    pair_wide = (expanded_width-pos _ (number_at x x_is).wide, expanded_width-pos _ (number_at y y_is).wide)

    shared-pos : 0 < shared (value_at values x) (value_at values y)
    shared-pos = lcm-pos _ _ (number_at x x_is).positive (number_at y y_is).positive

    of_pair : {w first slots : ℕ} {n : ℤ} → 0 < w → Fits w n
        → HoldsNumber (record { sort = 1; width = w; denominator = meeting_at earlier x y; first = first; slots = slots }) n (shared (value_at values x) (value_at values y))
    of_pair wide fits = record { sort = refl; fits = fits; denominator = meeting_is; wide = wide; positive = shared-pos }

  -- by kinds, with the fields as variables, because a field of a row cannot be matched
  kind_fits : (k : Kind) (p x y z : ℕ) → out_of_range (uses k) p x z ≡ false → Sorted earlier k x y z
      → (first : ℕ) (v : ℤ) → in_bits (uses k) p v ≡ true → Holds (record_by first (plan_at earlier k p x y z)) (value_by k p x y z (value_at values x) (value_at values y) (value_at values z) v)
  kind_fits BooleanConstant p x y z ranged sorted first v inside = (refl, refl)
  kind_fits BooleanUnknown p x y z ranged sorted first v inside = (refl, refl)
  kind_fits NaturalUnknown p x y z ranged sorted first v inside =
      let (n, e, small) = natural_in p v inside in
      let (bits, den) = neither (outside 1 31 p) (outside 1 4096 z) ranged in
      record { sort = refl; fits = rw (e, add-one p) (natural_fits small); denominator = refl; wide = omega arith; positive = at_least 1 4096 z den }
  kind_fits IntegerUnknown p x y z ranged sorted first v inside =
      let (bits, den) = neither (outside 1 32 p) (outside 1 4096 z) ranged in
      record { sort = refl; fits = integer_in p v inside; denominator = refl; wide = at_least 1 32 p bits; positive = at_least 1 4096 z den }
  kind_fits NumberConstant p x y z ranged sorted first v inside =
      record { sort = refl; fits = fewest_fits (constant_in x y); denominator = refl; wide = omega arith; positive = at_least 1 4096 z ranged }
  kind_fits Not p x y z ranged sorted first v inside = (refl, refl)
  kind_fits And p x y z ranged sorted first v inside = (refl, refl)
  kind_fits Or p x y z ranged sorted first v inside = (refl, refl)
  kind_fits Implies p x y z ranged sorted first v inside = (refl, refl)
  kind_fits Iff p x y z ranged sorted first v inside = (refl, refl)
  kind_fits Sum p x y z ranged sorted first v inside =
      let (x_is, y_is) = two_sorts (sort_at earlier x) 1 (sort_at earlier y) 1 sorted in
      let (a, b) = pair_fits x y x_is y_is in
      let (wide_a, wide_b) = pair_wide x y x_is y_is in
      of_pair x y x_is y_is (omega arith) (rw add-one (sum_fits wide_a wide_b a b))
  kind_fits Difference p x y z ranged sorted first v inside =
      let (x_is, y_is) = two_sorts (sort_at earlier x) 1 (sort_at earlier y) 1 sorted in
      let (a, b) = pair_fits x y x_is y_is in
      let (wide_a, wide_b) = pair_wide x y x_is y_is in
      of_pair x y x_is y_is (omega arith) (rw add-one (difference_fits wide_a wide_b a b))
  kind_fits Product p x y z ranged sorted first v inside =
      let (x_is, y_is) = two_sorts (sort_at earlier x) 1 (sort_at earlier y) 1 sorted in
      let a = number_at x x_is in
      let b = number_at y y_is in
      record {
        sort = refl;
        fits = product_fits a.wide b.wide a.fits b.fits;
        denominator = cc;
        wide = omega arith;
        positive = mul-pos a.positive b.positive;
      }
  kind_fits Choice p x y z ranged sorted first v inside =
      let (y_is, z_is) = two_sorts (sort_at earlier y) 1 (sort_at earlier z) 1 (right_sort (sort_at earlier x) 0 _ sorted).1 in
      let (a, b) = pair_fits y z y_is z_is in
      let (wide_a, wide_b) = pair_wide y z y_is z_is in
      of_pair y z y_is z_is (omega arith) (choice_fits (truth_of (value_at values x)) a b)
  kind_fits Greater p x y z ranged sorted first v inside = (refl, refl)
  kind_fits Equal p x y z ranged sorted first v inside = (refl, refl)

pub row_fits : (earlier : List Record) (values : List Value) → AllHold earlier values → (first : ℕ) (f : Fields) (r : Record) (k : Counts) → Passes earlier first f r k
    → (v : ℤ) → in_bits (uses f.kind) f.p v ≡ true → Holds r (row_val values f v)
unfolding row_val
row_fits earlier values h first f r k passes v inside =
    rw passes.is_record (kind_fits earlier values h f.kind f.p f.x f.y f.z passes.ranged passes.sorted first v inside)
