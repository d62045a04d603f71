-- Row by row: a row's literals have the width of its record, and the variables, clauses and slots that its steps make are those
-- that acceptance counts. Assumes nothing.
use mathlib.Core.Path.{◌≡◌, refl, sym, ap, ap₂, subst₂}
use mathlib.Core.Bool.{Bool, true, false}
use mathlib.Core.List.{List, [], ◌∷◌, ◌++◌}
use Prim.Native.Nat.{ℕ, zero, suc, ◌*◌, ◌/◌, ◌≤◌, ◌<◌}
use native.Mathlib.Omega.{arith}
use native.Mathlib.Numerals.{add-one}
use lib.Dec.{eqb}
use lib.ListN.{length, get_or}
use Rattle.whole.specs.Divisors.{lcm}
use Rattle.circuit.specs.declared.Counts.{Counts}
use Rattle.circuit.specs.Literals.{Lit, neg, falsity, known}
use Rattle.circuit.specs.Gates.{free, and, xor}
use Rattle.circuit.specs.Circuits.{Circuit, ret, make, ◌>>=◌}
use Rattle.circuit.specs.Numbers.{constant, unknown, sum, difference, product, expansion, greater, equal, choice}
use Rattle.circuit.specs.Counting.{◌⊕◌}
use Rattle.circuit.proofs.Wellformed.{Names}
use Rattle.circuit.proofs.Bounds.{bound, var_neg, Lits, lits_up, lits_snoc, constant_lits}
use Rattle.circuit.proofs.Costs.{State, Cost, cost_ret, cost_new, cost_map, cost_bind, Grown, Spent, grown_then, unknown_cost, sum_cost, difference_cost, product_cost, choice_cost, greater_cost, equal_cost, expansion_cost, expanded_width-pos}
use Rattle.sheet.specs.declared.Kind.{Kind}
use Rattle.sheet.specs.declared.Kind.TheVariants.{BooleanConstant, BooleanUnknown, NaturalUnknown, IntegerUnknown, NumberConstant, Not, And, Or, Implies, Iff, Sum, Difference, Product, Choice, Greater, Equal}
use Rattle.sheet.specs.declared.Fields.{Fields}
use Rattle.sheet.specs.declared.Record.{Record}
use Rattle.sheet.specs.Rows.{constant_in, Uses, a_flag, a_boolean, a_natural, an_integer, a_constant, the_rows, uses}
use Rattle.sheet.specs.Acceptance.{outside, out_of_range, boolean_plan, number_plan, width_over, bringing, record_by, record_at}
use Rattle.sheet.specs.Steps.{Cell, boolean_cell, number_cell, negated, with_sign, lit, least, brought, steps_by, cell_at, row_steps}
use Rattle.sheet.proofs.Accepted.{meeting_at, larger_at, plan_at, Passes}
use Rattle.sheet.proofs.Tested.{neither, at_least}

-- a row's cell has its record's width and denominator, and names the first n variables only
pub record CellFor (n : ℕ) (r : Record) (c : Cell) : Type 0 where
  pub lits : Lits n r.width c.literals
  pub some : 0 < r.width
  pub under : r.denominator ≡ c.denominator

abbrev pub CellsFor : ℕ → List Record → List Cell → Type 0
CellsFor n [] [] = Unit {0}
CellsFor n [] (c ∷ cs) = ⊥
CellsFor n (r ∷ rs) [] = ⊥
CellsFor n (r ∷ rs) (c ∷ cs) = CellFor n r c × CellsFor n rs cs

cell_up : {n m : ℕ} {r : Record} {c : Cell} → n ≤ m → CellFor n r c → CellFor m r c
cell_up h a = record { lits = lits_up h a.lits; some = a.some; under = a.under }

pub cells_snoc : (n m : ℕ) (rs : List Record) (cs : List Cell) (r : Record) (c : Cell) → n ≤ m → CellsFor n rs cs → CellFor m r c → CellsFor m (rs ++ r ∷ []) (cs ++ c ∷ [])
cells_snoc n m [] [] r c h a b = (b, tt)
cells_snoc n m [] (d ∷ cs) r c h a b = absurd a
cells_snoc n m (q ∷ rs) [] r c h a b = absurd a
cells_snoc n m (q ∷ rs) (d ∷ cs) r c h a b = (cell_up h a.0, cells_snoc n m rs cs r c h a.1 b)

pub cells_many : (n : ℕ) (rs : List Record) (cs : List Cell) → CellsFor n rs cs → length cs ≡ length rs
cells_many n [] [] a = refl
cells_many n [] (c ∷ cs) a = absurd a
cells_many n (r ∷ rs) [] a = absurd a
cells_many n (r ∷ rs) (c ∷ cs) a = ap suc (cells_many n rs cs a.1)

-- the bits of unknowns that a row asks for
abbrev pub bits_asked : Uses → (p : ℕ) → ℕ
bits_asked a_flag p = 0
bits_asked a_boolean p = 1
bits_asked a_natural p = p
bits_asked an_integer p = p
bits_asked a_constant p = 0
bits_asked (the_rows sorts) p = 0

known_named : (n : ℕ) → 0 < n → (b : Bool) → Names n (known b)
known_named n h true = h
known_named n h false = h

pub first_named : (n : ℕ) → 0 < n → (ls : List Lit) → bound ls ≤ n → Names n (get_or ls 0 falsity)
first_named n h [] b = h
first_named n h (l ∷ ls) b = omega arith

module _ (n : ℕ) (h : 0 < n) where
  pub cell_at_lem : (rs : List Record) (cs : List Cell) → CellsFor n rs cs → (x : ℕ) → CellFor n (record_at rs x) (cell_at cs x)
  cell_at_lem [] [] a zero = record { lits = omega arith; some = omega arith; under = refl }
  cell_at_lem [] [] a (suc x) = record { lits = omega arith; some = omega arith; under = refl }
  cell_at_lem [] (c ∷ cs) a x = absurd a
  cell_at_lem (r ∷ rs) [] a x = absurd a
  cell_at_lem (r ∷ rs) (c ∷ cs) a zero = a.0
  cell_at_lem (r ∷ rs) (c ∷ cs) a (suc x) = cell_at_lem rs cs a.1 x

module _ (s : State) (h : 0 < s.place) (rs : List Record) (cs : List Cell) (ok : CellsFor s.place rs cs) where
  at : (x : ℕ) → CellFor s.place (record_at rs x) (cell_at cs x)
  at x = cell_at_lem s.place h rs cs ok x

  lit_named : (x : ℕ) → Names s.place (lit (cell_at cs x))
  lit_named x = first_named s.place h (cell_at cs x).literals (at x).lits.low

  neg_named : (x : ℕ) → Names s.place (neg (lit (cell_at cs x)))
  neg_named x = omega (arith, lit_named x, var_neg (lit (cell_at cs x)))

  same_least : (x y : ℕ) → meeting_at rs x y ≡ least (cell_at cs x) (cell_at cs y)
  same_least x y = ap₂ lcm (at x).under (at y).under

  -- both numbers over one denominator, the first before the second
  pub brought_cost : {A : Type 0} {Q : State → A → Type 0} (x y : ℕ) (made : List Lit → List Lit → Circuit A)
      → ((m : State) (xs ys : List Lit) → Spent s m (bringing (record_at rs x) (record_at rs y)) → 0 < m.place → Lits m.place (width_over (meeting_at rs x y) (record_at rs x)) xs → Lits m.place (width_over (meeting_at rs x y) (record_at rs y)) ys → Cost m (made xs ys) Q)
      → Cost s (brought (cell_at cs x) (cell_at cs y) made) Q
  brought_cost {Q = Q} x y made f =
      subst₂ (λ (i j : ℕ). Cost s (expansion i (cell_at cs x).literals >>= λ xs. expansion j (cell_at cs y).literals >>= λ ys. made xs ys) Q)
      (ap₂ ◌/◌ (same_least x y) (at x).under) (ap₂ ◌/◌ (same_least x y) (at y).under)
      (cost_bind (expansion_cost s h (meeting_at rs x y / (record_at rs x).denominator) (at x).some (at x).lits) (λ i xs a.
      cost_bind (expansion_cost i (omega arith) (meeting_at rs x y / (record_at rs y).denominator) (at y).some (lits_up (omega arith) (at y).lits)) (λ j ys b.
      f j xs ys (grown_then a.0 b.0) (omega arith) (lits_up (omega arith) a.1) b.1)))

  wide : (d x : ℕ) → 0 < width_over d (record_at rs x)
  wide d x = expanded_width-pos (d / (record_at rs x).denominator) (at x).some

  -- a cell from what its literals cost
  module _ (first : ℕ) where
    number_cell_lem : (c : Circuit (List Lit)) {b : ℕ} {k : Counts} {w : ℕ} (d e : ℕ) → 0 < w → d ≡ e → Cost s c (λ i ls. Grown s i b k × Lits i.place w ls)
        → Cost s (number_cell e c) (λ i c. Grown s i b k × CellFor i.place (record_by first (number_plan w d k)) c)
    number_cell_lem c d e h under p = cost_bind p (λ i ls q. cost_ret (q.0, record { lits = q.1; some = h; under = under }))

    boolean_cell_lem : (c : Circuit Lit) {b : ℕ} {k : Counts} → Cost s c (λ i l. Grown s i b k × Names i.place l)
        → Cost s (boolean_cell c) (λ i c. Grown s i b k × CellFor i.place (record_by first (boolean_plan k)) c)
    boolean_cell_lem c p = cost_bind p (λ i l q. cost_ret (q.0, record { lits = omega arith; some = omega arith; under = refl }))

    negated_cell : (c : Circuit Lit) {b : ℕ} {k : Counts} → Cost s c (λ i l. Grown s i b k × Names i.place l)
        → Cost s (boolean_cell (negated c)) (λ i c. Grown s i b k × CellFor i.place (record_by first (boolean_plan k)) c)
    negated_cell c p = boolean_cell_lem (negated c) (cost_bind p (λ i l q. cost_ret (q.0, omega (arith, q.1, var_neg l))))

    -- a circuit of two numbers brought together
    together : {A : Type 0} {Q : State → A → Type 0} {k : Counts} (x y : ℕ) (made : List Lit → List Lit → Circuit A)
        → ((m : State) (xs ys : List Lit) → s.place ≤ m.place → 0 < m.place → Lits m.place (width_over (meeting_at rs x y) (record_at rs x)) xs → Lits m.place (width_over (meeting_at rs x y) (record_at rs y)) ys
        → Cost m (made xs ys) (λ i r. Spent m i k × Q i r))
        → Cost s (brought (cell_at cs x) (cell_at cs y) made) (λ i r. Spent s i (bringing (record_at rs x) (record_at rs y) ⊕ k) × Q i r)
    together x y made f = brought_cost x y made (λ m xs ys g p a b. cost_map (f m xs ys (omega arith) p a b) (λ i r q. (grown_then g q.0, q.1)))

    cost_by : (k : Kind) (p x y z : ℕ) → out_of_range (uses k) p x z ≡ false
        → Cost s (steps_by k p x y z (cell_at cs x) (cell_at cs y) (cell_at cs z)) (λ i c. Grown s i (bits_asked (uses k) p) (plan_at rs k p x y z).counts × CellFor i.place (record_by first (plan_at rs k p x y z)) c)
    cost_by BooleanConstant p x y z o = boolean_cell_lem (ret (known (eqb x 1))) (cost_ret (omega arith, known_named s.place h (eqb x 1)))
    cost_by BooleanUnknown p x y z o = boolean_cell_lem (make free) (cost_new tt (cost_ret (omega arith)))
    cost_by NaturalUnknown p x y z o = number_cell_lem (with_sign (unknown p)) z z (omega arith) refl (cost_bind (unknown_cost s p) (λ i ls q. cost_ret (q.0, rw (add-one p) (lits_snoc q.1 falsity (omega arith)))))
    cost_by IntegerUnknown p x y z o = number_cell_lem (unknown p) z z (at_least 1 32 p (neither (outside 1 32 p) (outside 1 4096 z) o).0) refl (unknown_cost s p)
    cost_by NumberConstant p x y z o = number_cell_lem (ret (constant (constant_in x y))) z z (omega arith) refl (cost_ret (omega arith, constant_lits (constant_in x y) h))
    cost_by Not p x y z o = boolean_cell_lem (ret (neg (lit (cell_at cs x)))) (cost_ret (omega arith, neg_named x))
    cost_by And p x y z o = boolean_cell_lem (make (and (lit (cell_at cs x)) (lit (cell_at cs y)))) (cost_new (lit_named x, lit_named y) (cost_ret (omega arith)))
    cost_by Or p x y z o = negated_cell (make (and (neg (lit (cell_at cs x))) (neg (lit (cell_at cs y))))) (cost_new (neg_named x, neg_named y) (cost_ret (omega arith)))
    cost_by Implies p x y z o = negated_cell (make (and (lit (cell_at cs x)) (neg (lit (cell_at cs y))))) (cost_new (lit_named x, neg_named y) (cost_ret (omega arith)))
    cost_by Iff p x y z o = negated_cell (make (xor (lit (cell_at cs x)) (lit (cell_at cs y)))) (cost_new (lit_named x, lit_named y) (cost_ret (omega arith)))
    cost_by Sum p x y z o = rw (add-one (larger_at rs x y)) (number_cell_lem (brought (cell_at cs x) (cell_at cs y) sum) (meeting_at rs x y) (least (cell_at cs x) (cell_at cs y)) (omega arith) (same_least x y)
        (together x y sum (λ m xs ys u h a b. sum_cost m h (wide _ x) (wide _ y) a b)))
    cost_by Difference p x y z o = rw (add-one (larger_at rs x y)) (number_cell_lem (brought (cell_at cs x) (cell_at cs y) difference) (meeting_at rs x y) (least (cell_at cs x) (cell_at cs y)) (omega arith) (same_least x y)
        (together x y difference (λ m xs ys u h a b. difference_cost m h (wide _ x) (wide _ y) a b)))
    cost_by Product p x y z o = number_cell_lem (product (cell_at cs x).literals (cell_at cs y).literals) ((record_at rs x).denominator * (record_at rs y).denominator) ((cell_at cs x).denominator * (cell_at cs y).denominator) (omega (arith, (at x).some)) (ap₂ ◌*◌ (at x).under (at y).under)
        (product_cost s h (at x).some (at y).some (at x).lits (at y).lits)
    cost_by Choice p x y z o = number_cell_lem (brought (cell_at cs y) (cell_at cs z) (choice (lit (cell_at cs x)))) (meeting_at rs y z) (least (cell_at cs y) (cell_at cs z)) (omega (arith, wide (meeting_at rs y z) y)) (same_least y z)
        (together y z (choice (lit (cell_at cs x))) (λ m xs ys u h a b. choice_cost m h (wide _ y) (wide _ z) a b (lit (cell_at cs x)) (omega (arith, lit_named x))))
    cost_by Greater p x y z o = boolean_cell_lem (brought (cell_at cs x) (cell_at cs y) greater) (together x y greater (λ m xs ys u h a b. greater_cost m h (wide _ x) (wide _ y) a b))
    cost_by Equal p x y z o = boolean_cell_lem (brought (cell_at cs x) (cell_at cs y) equal) (together x y equal (λ m xs ys u h a b. equal_cost m h (wide _ x) (wide _ y) a b))

    pub row_cost : (f : Fields) (r : Record) (k : Counts) → Passes rs first f r k
        → Cost s (row_steps cs f) (λ i c. Grown s i (bits_asked (uses f.kind) f.p) k × CellFor i.place r c)
    unfolding row_steps
    row_cost f r k a =
        subst₂ (λ (q : Record) (n : Counts). Cost s (row_steps cs f) (λ i c. Grown s i (bits_asked (uses f.kind) f.p) n × CellFor i.place q c)) (sym a.is_record) (sym a.is_counts)
        (cost_by f.kind f.p f.x f.y f.z a.ranged)
