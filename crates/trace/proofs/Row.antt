-- Row by row: wherever a row's gates hold and its free bits are those of the value chosen, they hold the row's trace, and its literals
-- have the width of its record. Assumes nothing.
use mathlib.Core.Path.{◌≡◌, refl, sym, ◌∙◌, ap, ap₂, subst, subst₂}
use mathlib.Core.Bool.{Bool, true, false, not, ◌&&◌, ◌||◌}
use mathlib.Core.List.{List, [], ◌∷◌, ◌++◌, append_assoc}
use Prim.Native.Nat.{ℕ, ◌+◌, ◌*◌, ◌/◌, max}
use native.Mathlib.Omega.{arith}
use lib.Dec.{eqb}
use lib.ListN.{length, length-append}
use lib.IntN.{ℤ, pos, ◌*ℤ◌}
use Rattle.whole.specs.Divisors.{lcm}
use Rattle.circuit.specs.declared.Counts.{Counts}
use Rattle.circuit.specs.Literals.{Lit, neg, truth, falsity, Assignment, lit_true}
use Rattle.circuit.specs.Gates.{xor_of}
use Rattle.circuit.specs.Circuits.{Circuit, ◌>>=◌}
use Rattle.circuit.specs.Numbers.{larger, expansion, sum, difference, choice, greater, equal}
use Rattle.circuit.proofs.Bounds.{constant_lits}
use Rattle.circuit.proofs.Reading.{Reads}
use Rattle.sheet.specs.declared.Kind.{Kind}
use Rattle.sheet.specs.declared.Kind.TheVariants.{BooleanConstant, BooleanUnknown, NaturalUnknown, IntegerUnknown, NumberConstant, Not, And, Or, Implies, Iff, Sum, Difference, Product, Choice, Greater, Equal}
use Rattle.sheet.specs.declared.Fields.{Fields}
use Rattle.sheet.specs.declared.Record.{Record}
use Rattle.sheet.specs.Rows.{constant_in, uses}
use Rattle.sheet.specs.Values.{Value, truth_of, numerator, over, value_at}
use Rattle.sheet.specs.Acceptance.{record_by, record_at}
use Rattle.sheet.specs.Steps.{Cell, boolean_cell, number_cell, lit, least, brought, steps_by, cell_at, row_steps, bits_by}
use Rattle.sheet.proofs.Accepted.{sort_at, meeting_at, larger_at, plan_at, Sorted, Passes}
use Rattle.sheet.proofs.Tested.{right_sort, two_sorts}
use Rattle.sheet.proofs.Meant.{ShowAll, truth_at, neg_at, number_at}
use Rattle.trace.specs.Traces.{bringing, trace_by, trace_of}
use Rattle.trace.proofs.Tracing.{Tracing, trace_ret, trace_new, trace_bind, trace_then}
use Rattle.trace.proofs.Fitting.{Fit, fit_truth, FitAll, fit_at}
use Rattle.trace.proofs.Adding.{sum_traced, difference_traced}
use Rattle.trace.proofs.Multiplying.{product_traced, expansion_traced}
use Rattle.trace.proofs.Comparing.{greater_traced, equal_traced}
use Rattle.trace.proofs.Choosing.{unknown_traced, choice_traced}

module _ (s : Assignment) (et : lit_true s truth ≡ true) (l : List Bool) (rs : List Record) (cs : List Cell) (vs : List Value) (h : ShowAll s rs cs vs) (k : FitAll rs cs) where
  at : (x : ℕ) → Fit (record_at rs x) (cell_at cs x)
  at x = fit_at rs cs k x

  same_least : (x y : ℕ) → meeting_at rs x y ≡ least (cell_at cs x) (cell_at cs y)
  same_least x y = ap₂ lcm (at x).under (at y).under

  reads_at : (x : ℕ) → sort_at rs x ≡ 1 → Reads s (cell_at cs x).literals (numerator (value_at vs x))
  reads_at x e = (number_at s et l rs cs vs h x e).0

  -- a number brought to the denominator m
  over_at : (m x : ℕ) {ls : List Lit} → sort_at rs x ≡ 1 → Reads s ls (numerator (value_at vs x) *ℤ pos (m / (record_at rs x).denominator)) → Reads s ls (over m (value_at vs x))
  over_at m x {ls} e a = subst (λ (d : ℕ). Reads s ls (numerator (value_at vs x) *ℤ pos (m / d))) ((at x).under ∙ (number_at s et l rs cs vs h x e).1) a

  -- what is made of the rows x and y brought to one denominator holds bs
  abbrev Brought : {A : Type 0} (Q : A → Type 0) (bs : List Bool) (x y : ℕ) (made : List Lit → List Lit → Circuit A) → Type 0
  Brought Q bs x y made =
      (xs ys : List Lit) → Reads s xs (over (meeting_at rs x y) (value_at vs x)) → Reads s ys (over (meeting_at rs x y) (value_at vs y)) → larger xs ys ≡ larger_at rs x y
      → Tracing s l (made xs ys) l bs Q

  abbrev bringing_at : (x y : ℕ) → List Bool
  bringing_at x y = bringing (record_at rs x) (record_at rs y) (value_at vs x) (value_at vs y)

  brought_traced : {A : Type 0} {Q : A → Type 0} {bs : List Bool} (x y : ℕ) (made : List Lit → List Lit → Circuit A) → (sort_at rs x ≡ 1) × (sort_at rs y ≡ 1) → Brought Q bs x y made
      → Tracing s l (brought (cell_at cs x) (cell_at cs y) made) l (bringing_at x y ++ bs) Q
  brought_traced {Q = Q} {bs = bs} x y made (ex, ey) f =
      let m = meeting_at rs x y in
      subst₂ (λ (i j : ℕ). Tracing s l (expansion i (cell_at cs x).literals >>= λ xs. expansion j (cell_at cs y).literals >>= λ ys. made xs ys) l (bringing_at x y ++ bs) Q)
      (ap₂ ◌/◌ (same_least x y) (at x).under) (ap₂ ◌/◌ (same_least x y) (at y).under)
      (rw append_assoc
      (trace_bind (expansion_traced s l et (m / (record_at rs x).denominator) (reads_at x ex) (at x).wide) (λ xs a.
      trace_bind (expansion_traced s l et (m / (record_at rs y).denominator) (reads_at y ey) (at y).wide) (λ ys b.
      f xs ys (over_at m x ex a.1) (over_at m y ey b.1) (ap₂ max a.0 b.0)))))

  -- a row of two numbers brought together: a number, or a truth
  number_traced : {bs : List Bool} {first slots w : ℕ} (x y : ℕ) (made : List Lit → List Lit → Circuit (List Lit)) → (sort_at rs x ≡ 1) × (sort_at rs y ≡ 1) → Brought (λ r. length r ≡ w) bs x y made
      → Tracing s l (number_cell (least (cell_at cs x) (cell_at cs y)) (brought (cell_at cs x) (cell_at cs y) made)) l (bringing_at x y ++ bs)
      (λ c. Fit (record { sort = 1; width = w; denominator = meeting_at rs x y; first = first; slots = slots }) c)
  number_traced x y made e f = trace_then (brought_traced x y made e f) (λ ls a. trace_ret (record { wide = a; under = same_least x y }))

  truth_traced : {bs : List Bool} {first slots : ℕ} (x y : ℕ) (made : List Lit → List Lit → Circuit Lit) → (sort_at rs x ≡ 1) × (sort_at rs y ≡ 1) → Brought (λ u. Unit {0}) bs x y made
      → Tracing s l (boolean_cell (brought (cell_at cs x) (cell_at cs y) made)) l (bringing_at x y ++ bs)
      (λ c. Fit (record { sort = 0; width = 1; denominator = 1; first = first; slots = slots }) c)
  truth_traced x y made e f = trace_then (brought_traced x y made e f) (λ u a. trace_ret fit_truth)

  truth_of_lem : (x : ℕ) → sort_at rs x ≡ 0 → lit_true s (lit (cell_at cs x)) ≡ truth_of (value_at vs x)
  truth_of_lem x e = truth_at s et l rs cs vs h x e

  neg_of : (x : ℕ) → sort_at rs x ≡ 0 → lit_true s (neg (lit (cell_at cs x))) ≡ not (truth_of (value_at vs x))
  neg_of x e = neg_at s et l rs cs vs h x e

  traced_by : (first : ℕ) (k : Kind) (p x y z : ℕ) (v : ℤ) → Sorted rs k x y z
      → Tracing s (bits_by (uses k) p v ++ l) (steps_by k p x y z (cell_at cs x) (cell_at cs y) (cell_at cs z)) l
      (trace_by k p (record_at rs x) (record_at rs y) (record_at rs z) (value_at vs x) (value_at vs y) (value_at vs z) v) (λ c. Fit (record_by first (plan_at rs k p x y z)) c)
  traced_by first BooleanConstant p x y z v w = trace_ret fit_truth
  traced_by first BooleanUnknown p x y z v w = trace_new refl (λ u eu. trace_ret fit_truth)
  traced_by first NaturalUnknown p x y z v w =
      trace_then (trace_then (unknown_traced s l p v) (λ ls e. trace_ret (length-append ls (falsity ∷ []) ∙ ap (λ n. n + 1) e))) (λ ls e. trace_ret (record { wide = e; under = refl }))
  traced_by first IntegerUnknown p x y z v w = trace_then (unknown_traced s l p v) (λ ls e. trace_ret (record { wide = e; under = refl }))
  traced_by first NumberConstant p x y z v w = trace_ret (record { wide = (constant_lits {n = 1} (constant_in x y) (omega arith)).size; under = refl })
  traced_by first Not p x y z v w = trace_ret fit_truth
  traced_by first And p x y z v w =
      let (ex, ey) = two_sorts (sort_at rs x) 0 (sort_at rs y) 0 w in
      trace_new (ap₂ ◌&&◌ (truth_of_lem x ex) (truth_of_lem y ey)) (λ u eu. trace_ret fit_truth)
  traced_by first Or p x y z v w =
      let (ex, ey) = two_sorts (sort_at rs x) 0 (sort_at rs y) 0 w in
      trace_new (ap₂ ◌&&◌ (neg_of x ex) (neg_of y ey)) (λ u eu. trace_ret fit_truth)
  traced_by first Implies p x y z v w =
      let (ex, ey) = two_sorts (sort_at rs x) 0 (sort_at rs y) 0 w in
      trace_new (ap₂ ◌&&◌ (truth_of_lem x ex) (neg_of y ey)) (λ u eu. trace_ret fit_truth)
  traced_by first Iff p x y z v w =
      let (ex, ey) = two_sorts (sort_at rs x) 0 (sort_at rs y) 0 w in
      trace_new (ap₂ xor_of (truth_of_lem x ex) (truth_of_lem y ey)) (λ u eu. trace_ret fit_truth)
  traced_by first Sum p x y z v w = number_traced x y sum (two_sorts (sort_at rs x) 1 (sort_at rs y) 1 w) (λ xs ys rx ry e. sum_traced s l et rx ry e)
  traced_by first Difference p x y z v w = number_traced x y difference (two_sorts (sort_at rs x) 1 (sort_at rs y) 1 w) (λ xs ys rx ry e. difference_traced s l et rx ry e)
  traced_by first Product p x y z v w =
      let (ex, ey) = two_sorts (sort_at rs x) 1 (sort_at rs y) 1 w in
      trace_then (product_traced s l (ap not et) (reads_at x ex) (reads_at y ey) (at x).wide (at y).wide) (λ ls e. trace_ret (record { wide = e; under = ap₂ ◌*◌ (at x).under (at y).under }))
  traced_by first Choice p x y z v w =
      let (ex, rest) = right_sort (sort_at rs x) 0 (not (eqb (sort_at rs y) 1) || (not (eqb (sort_at rs z) 1) || false)) w in
      number_traced y z (choice (lit (cell_at cs x))) (two_sorts (sort_at rs y) 1 (sort_at rs z) 1 rest) (λ xs ys rx ry e. choice_traced s l (lit (cell_at cs x)) (truth_of (value_at vs x)) (truth_of_lem x ex) rx ry e)
  traced_by first Greater p x y z v w = truth_traced x y greater (two_sorts (sort_at rs x) 1 (sort_at rs y) 1 w) (λ xs ys rx ry e. greater_traced s l et rx ry e)
  traced_by first Equal p x y z v w = truth_traced x y equal (two_sorts (sort_at rs x) 1 (sort_at rs y) 1 w) (λ xs ys rx ry e. equal_traced s l et rx ry e)

  pub row_traced : (first : ℕ) (f : Fields) (r : Record) (c : Counts) → Passes rs first f r c → (v : ℤ)
      → Tracing s (bits_by (uses f.kind) f.p v ++ l) (row_steps cs f) l (trace_of rs vs f v) (λ c. Fit r c)
  unfolding row_steps trace_of
  row_traced first f r c a v =
      subst (λ (q : Record). Tracing s (bits_by (uses f.kind) f.p v ++ l) (row_steps cs f) l (trace_of rs vs f v) (λ c. Fit q c)) (sym a.is_record)
      (traced_by first f.kind f.p f.x f.y f.z v a.sorted)
