-- Row by row: wherever a row's gates hold and its free bits are those of the value chosen, its literals read as its exact value.
-- Assumes nothing.
use mathlib.Core.Path.{◌≡◌, refl, sym, ◌∙◌, ap, ap₂, subst, subst₂}
use mathlib.Core.Bool.{Bool, true, false, not, ◌&&◌, ◌||◌, beq}
use mathlib.Core.List.{List, [], ◌∷◌, ◌++◌, map}
use Prim.Native.Nat.{ℕ, zero, suc, ◌*◌, ◌/◌, ◌^◌, ◌<◌}
use native.Mathlib.Omega.{arith}
use lib.Dec.{eqb}
use lib.ListN.{get_or}
use lib.IntN.{ℤ, pos, ◌*ℤ◌}
use Rattle.whole.specs.Bits.{Fits, bits_of}
use Rattle.whole.specs.Divisors.{lcm}
use Rattle.whole.proofs.Bits.{below_fits}
use Rattle.circuit.specs.declared.Counts.{Counts}
use Rattle.circuit.specs.Literals.{Lit, neg, truth, falsity, known, Assignment, lit_true}
use Rattle.circuit.specs.Gates.{xor_of}
use Rattle.circuit.specs.Circuits.{Circuit}
use Rattle.circuit.specs.Numbers.{sum, difference, choice, greater, equal}
use Rattle.circuit.proofs.Gates.{lit_true-neg}
use Rattle.circuit.proofs.Meaning.{Sem, sem_ret, sem_new, sem_bind}
use Rattle.circuit.proofs.Reading.{Reads, constant_reads, sum_reads, difference_reads, product_reads, expansion_reads, choice_reads, greater_reads, equal_reads, unknown_sem, natural_reads, integer_reads}
use Rattle.sheet.specs.declared.Kind.{Kind}
use Rattle.sheet.specs.declared.Kind.TheVariants.{BooleanConstant, BooleanUnknown, NaturalUnknown, IntegerUnknown, NumberConstant, Not, And, Or, Implies, Iff, Sum, Difference, Product, Choice, Greater, Equal}
use Rattle.sheet.specs.declared.Fields.{Fields}
use Rattle.sheet.specs.declared.Record.{Record}
use Rattle.sheet.specs.Rows.{constant_in, uses}
use Rattle.sheet.specs.Values.{Value, boolean, fraction, truth_of, numerator, denominator, shared, over, value_by, value_at, row_val, in_bits}
use Rattle.sheet.specs.Acceptance.{outside, out_of_range, record_by, record_at}
use Rattle.sheet.specs.Steps.{Cell, boolean_cell, number_cell, lit, least, brought, steps_by, cell_at, row_steps, bits_by}
use Rattle.sheet.proofs.Accepted.{sort_at, plan_at, Sorted, Passes}
use Rattle.sheet.proofs.Tested.{neither, at_least, right_sort, two_sorts, natural_in, integer_in}

-- under s a row's cell shows its value, of the sort that its record says
pub record ShowsNumber (s : Assignment) (r : Record) (c : Cell) (n : ℤ) (d : ℕ) : Type 0 where
  pub sorted : r.sort ≡ 1
  pub reads : Reads s c.literals n
  pub under : c.denominator ≡ d

pub record ShowsTruth (s : Assignment) (r : Record) (c : Cell) (b : Bool) : Type 0 where
  pub sorted : r.sort ≡ 0
  pub reads : lit_true s (get_or c.literals 0 falsity) ≡ b

abbrev pub Shows : Assignment → Record → Cell → Value → Type 0
Shows s r c (boolean b) = ShowsTruth s r c b
Shows s r c (fraction n d) = ShowsNumber s r c n d

abbrev pub ShowAll : Assignment → List Record → List Cell → List Value → Type 0
ShowAll s [] [] [] = Unit {0}
ShowAll s [] [] (v ∷ vs) = ⊥
ShowAll s [] (c ∷ cs) vs = ⊥
ShowAll s (r ∷ rs) [] vs = ⊥
ShowAll s (r ∷ rs) (c ∷ cs) [] = ⊥
ShowAll s (r ∷ rs) (c ∷ cs) (v ∷ vs) = Shows s r c v × ShowAll s rs cs vs

pub show_snoc : (s : Assignment) (rs : List Record) (cs : List Cell) (vs : List Value) (r : Record) (c : Cell) (v : Value)
    → ShowAll s rs cs vs → Shows s r c v → ShowAll s (rs ++ r ∷ []) (cs ++ c ∷ []) (vs ++ v ∷ [])
show_snoc s [] [] [] r c v h k = (k, tt)
show_snoc s [] [] (w ∷ vs) r c v h k = absurd h
show_snoc s [] (d ∷ cs) vs r c v h k = absurd h
show_snoc s (q ∷ rs) [] vs r c v h k = absurd h
show_snoc s (q ∷ rs) (d ∷ cs) [] r c v h k = absurd h
show_snoc s (q ∷ rs) (d ∷ cs) (w ∷ vs) r c v h k = (h.0, show_snoc s rs cs vs r c v h.1 k)

or_law : (a b : Bool) → not (not a && not b) ≡ (a || b)
or_law true b = refl
or_law false true = refl
or_law false false = refl

implies_law : (a b : Bool) → not (a && not b) ≡ (not a || b)
implies_law true true = refl
implies_law true false = refl
implies_law false b = refl

iff_law : (a b : Bool) → not (xor_of a b) ≡ beq a b
iff_law true true = refl
iff_law true false = refl
iff_law false true = refl
iff_law false false = refl

module _ (s : Assignment) (et : lit_true s truth ≡ true) where
  pub show_at : (rs : List Record) (cs : List Cell) (vs : List Value) → ShowAll s rs cs vs → (x : ℕ) → Shows s (record_at rs x) (cell_at cs x) (value_at vs x)
  show_at [] [] [] h zero = record { sorted = refl; reads = ap not et }
  show_at [] [] [] h (suc x) = record { sorted = refl; reads = ap not et }
  show_at [] [] (v ∷ vs) h x = absurd h
  show_at [] (c ∷ cs) vs h x = absurd h
  show_at (r ∷ rs) [] vs h x = absurd h
  show_at (r ∷ rs) (c ∷ cs) [] h x = absurd h
  show_at (r ∷ rs) (c ∷ cs) (v ∷ vs) h zero = h.0
  show_at (r ∷ rs) (c ∷ cs) (v ∷ vs) h (suc x) = show_at rs cs vs h.1 x

  pub truth_of_lem : (r : Record) (c : Cell) (v : Value) → Shows s r c v → r.sort ≡ 0 → lit_true s (get_or c.literals 0 falsity) ≡ truth_of v
  truth_of_lem r c (boolean b) h e = h.reads
  truth_of_lem r c (fraction n d) h e = absurd (omega (arith, h.sorted))

  number_of : (r : Record) (c : Cell) (v : Value) → Shows s r c v → r.sort ≡ 1 → Reads s c.literals (numerator v) × (c.denominator ≡ denominator v)
  number_of r c (boolean b) h e = absurd (omega (arith, h.sorted))
  number_of r c (fraction n d) h e = (h.reads, h.under)

  known_reads : (b : Bool) → lit_true s (known b) ≡ b
  known_reads true = et
  known_reads false = ap not et

  module _ (l : List Bool) (rs : List Record) (cs : List Cell) (vs : List Value) (h : ShowAll s rs cs vs) where
    pub truth_at : (x : ℕ) → sort_at rs x ≡ 0 → lit_true s (lit (cell_at cs x)) ≡ truth_of (value_at vs x)
    truth_at x e = truth_of_lem (record_at rs x) (cell_at cs x) (value_at vs x) (show_at rs cs vs h x) e

    pub neg_at : (x : ℕ) → sort_at rs x ≡ 0 → lit_true s (neg (lit (cell_at cs x))) ≡ not (truth_of (value_at vs x))
    neg_at x e = lit_true-neg s (lit (cell_at cs x)) ∙ ap not (truth_at x e)

    pub number_at : (x : ℕ) → sort_at rs x ≡ 1 → Reads s (cell_at cs x).literals (numerator (value_at vs x)) × ((cell_at cs x).denominator ≡ denominator (value_at vs x))
    number_at x e = number_of (record_at rs x) (cell_at cs x) (value_at vs x) (show_at rs cs vs h x) e

    same_shared : (x y : ℕ) → sort_at rs x ≡ 1 → sort_at rs y ≡ 1 → least (cell_at cs x) (cell_at cs y) ≡ shared (value_at vs x) (value_at vs y)
    same_shared x y ex ey = ap₂ lcm (number_at x ex).1 (number_at y ey).1

    brought_sem : {A : Type 0} {Q : A → Type 0} (x y : ℕ) (made : List Lit → List Lit → Circuit A) → sort_at rs x ≡ 1 → sort_at rs y ≡ 1
        → ((xs ys : List Lit) → Reads s xs (over (shared (value_at vs x) (value_at vs y)) (value_at vs x)) → Reads s ys (over (shared (value_at vs x) (value_at vs y)) (value_at vs y)) → Sem s l (made xs ys) l Q) → Sem s l (brought (cell_at cs x) (cell_at cs y) made) l Q
    brought_sem x y made ex ey f =
        let nx = number_at x ex in
        let ny = number_at y ey in
        let e = same_shared x y ex ey in
        sem_bind (expansion_reads s et l (least (cell_at cs x) (cell_at cs y) / (cell_at cs x).denominator) nx.0) (λ xs rx. sem_bind (expansion_reads s et l (least (cell_at cs x) (cell_at cs y) / (cell_at cs y).denominator) ny.0) (λ ys ry.
        f xs ys (subst₂ (λ (a b : ℕ). Reads s xs (numerator (value_at vs x) *ℤ pos (a / b))) e nx.1 rx)
        (subst₂ (λ (a b : ℕ). Reads s ys (numerator (value_at vs y) *ℤ pos (a / b))) e ny.1 ry)))

    -- a row of two numbers brought together: a number, or a truth
    number_sem : {r : Record} {n : ℤ} (x y : ℕ) (made : List Lit → List Lit → Circuit (List Lit)) → r.sort ≡ 1 → (sort_at rs x ≡ 1) × (sort_at rs y ≡ 1)
        → ((xs ys : List Lit) → Reads s xs (over (shared (value_at vs x) (value_at vs y)) (value_at vs x)) → Reads s ys (over (shared (value_at vs x) (value_at vs y)) (value_at vs y)) → Sem s l (made xs ys) l (λ ls. Reads s ls n))
        → Sem s l (number_cell (least (cell_at cs x) (cell_at cs y)) (brought (cell_at cs x) (cell_at cs y) made)) l (λ c. ShowsNumber s r c n (shared (value_at vs x) (value_at vs y)))
    number_sem x y made number e f = sem_bind (brought_sem x y made e.0 e.1 f) (λ ls a. sem_ret (record { sorted = number; reads = a; under = same_shared x y e.0 e.1 }))

    truth_sem : {r : Record} {b : Bool} (x y : ℕ) (made : List Lit → List Lit → Circuit Lit) → r.sort ≡ 0 → (sort_at rs x ≡ 1) × (sort_at rs y ≡ 1)
        → ((xs ys : List Lit) → Reads s xs (over (shared (value_at vs x) (value_at vs y)) (value_at vs x)) → Reads s ys (over (shared (value_at vs x) (value_at vs y)) (value_at vs y)) → Sem s l (made xs ys) l (λ u. lit_true s u ≡ b))
        → Sem s l (boolean_cell (brought (cell_at cs x) (cell_at cs y) made)) l (λ c. ShowsTruth s r c b)
    truth_sem x y made sorted_so e f = sem_bind (brought_sem x y made e.0 e.1 f) (λ u a. sem_ret (record { sorted = sorted_so; reads = a }))

    negated_reads : (u : Lit) {a b : Bool} → lit_true s u ≡ a → a ≡ b → lit_true s (neg u) ≡ not b
    negated_reads u e k = lit_true-neg s u ∙ ap not (e ∙ k)

    natural_row : (p : ℕ) (v : ℤ) (ls : List Lit) → (n : ℕ) × (v ≡ pos n) × (n < 2 ^ p) → map (lit_true s) ls ≡ bits_of p v → Reads s (ls ++ falsity ∷ []) v
    natural_row p v ls (n, e, h) k = rw e (natural_reads s et ls p n h (rw e at k))

    integer_row : (p : ℕ) (v : ℤ) (ls : List Lit) → 0 < p → Fits p v → map (lit_true s) ls ≡ bits_of p v → Reads s ls v
    integer_row zero v ls h a k = absurd (omega arith)
    integer_row (suc p) v ls h a k = integer_reads s ls p v (below_fits a) k

    sem_by : (first : ℕ) (k : Kind) (p x y z : ℕ) (v : ℤ) → out_of_range (uses k) p x z ≡ false → Sorted rs k x y z
        → in_bits (uses k) p v ≡ true → Sem s (bits_by (uses k) p v ++ l) (steps_by k p x y z (cell_at cs x) (cell_at cs y) (cell_at cs z)) l (λ c. Shows s (record_by first (plan_at rs k p x y z)) c (value_by k p x y z (value_at vs x) (value_at vs y) (value_at vs z) v))
    sem_by first BooleanConstant p x y z v o w b = sem_ret (record { sorted = refl; reads = known_reads (eqb x 1) })
    sem_by first BooleanUnknown p x y z v o w b = sem_new (λ u eu. sem_ret (record { sorted = refl; reads = eu }))
    sem_by first NaturalUnknown p x y z v o w b = sem_bind (sem_bind (unknown_sem s l p v) (λ ls e. sem_ret (natural_row p v ls (natural_in p v b) e))) (λ ls e. sem_ret (record { sorted = refl; reads = e; under = refl }))
    sem_by first IntegerUnknown p x y z v o w b =
        sem_bind (unknown_sem s l p v) (λ ls e. sem_ret (record { sorted = refl; reads = integer_row p v ls (at_least 1 32 p (neither (outside 1 32 p) (outside 1 4096 z) o).0) (integer_in p v b) e; under = refl }))
    sem_by first NumberConstant p x y z v o w b = sem_ret (record { sorted = refl; reads = constant_reads s et (constant_in x y); under = refl })
    sem_by first Not p x y z v o w b = sem_ret (record { sorted = refl; reads = neg_at x (right_sort (sort_at rs x) 0 false w).0 })
    sem_by first And p x y z v o w b =
        let (ex, ey) = two_sorts (sort_at rs x) 0 (sort_at rs y) 0 w in
        sem_new (λ u eu. sem_ret (record { sorted = refl; reads = eu ∙ ap₂ ◌&&◌ (truth_at x ex) (truth_at y ey) }))
    sem_by first Or p x y z v o w b =
        let (ex, ey) = two_sorts (sort_at rs x) 0 (sort_at rs y) 0 w in
        sem_new (λ u eu. sem_ret (record { sorted = refl; reads = negated_reads u eu (ap₂ ◌&&◌ (neg_at x ex) (neg_at y ey)) ∙ or_law (truth_of (value_at vs x)) (truth_of (value_at vs y)) }))
    sem_by first Implies p x y z v o w b =
        let (ex, ey) = two_sorts (sort_at rs x) 0 (sort_at rs y) 0 w in
        sem_new (λ u eu. sem_ret (record { sorted = refl; reads = negated_reads u eu (ap₂ ◌&&◌ (truth_at x ex) (neg_at y ey)) ∙ implies_law (truth_of (value_at vs x)) (truth_of (value_at vs y)) }))
    sem_by first Iff p x y z v o w b =
        let (ex, ey) = two_sorts (sort_at rs x) 0 (sort_at rs y) 0 w in
        sem_new (λ u eu. sem_ret (record { sorted = refl; reads = negated_reads u eu (ap₂ xor_of (truth_at x ex) (truth_at y ey)) ∙ iff_law (truth_of (value_at vs x)) (truth_of (value_at vs y)) }))
    sem_by first Sum p x y z v o w b = number_sem x y sum refl (two_sorts (sort_at rs x) 1 (sort_at rs y) 1 w) (λ xs ys rx ry. sum_reads s et l rx ry)
    sem_by first Difference p x y z v o w b = number_sem x y difference refl (two_sorts (sort_at rs x) 1 (sort_at rs y) 1 w) (λ xs ys rx ry. difference_reads s et l rx ry)
    sem_by first Product p x y z v o w b =
        let (ex, ey) = two_sorts (sort_at rs x) 1 (sort_at rs y) 1 w in
        sem_bind (product_reads s et l (number_at x ex).0 (number_at y ey).0) (λ r rr. sem_ret (record { sorted = refl; reads = rr; under = ap₂ ◌*◌ (number_at x ex).1 (number_at y ey).1 }))
    sem_by first Choice p x y z v o w b =
        let (ex, rest) = right_sort (sort_at rs x) 0 (not (eqb (sort_at rs y) 1) || (not (eqb (sort_at rs z) 1) || false)) w in
        number_sem y z (choice (lit (cell_at cs x))) refl (two_sorts (sort_at rs y) 1 (sort_at rs z) 1 rest) (λ xs ys rx ry. choice_reads s et l (lit (cell_at cs x)) (truth_of (value_at vs x)) (truth_at x ex) rx ry)
    sem_by first Greater p x y z v o w b = truth_sem x y greater refl (two_sorts (sort_at rs x) 1 (sort_at rs y) 1 w) (λ xs ys rx ry. greater_reads s et l rx ry)
    sem_by first Equal p x y z v o w b = truth_sem x y equal refl (two_sorts (sort_at rs x) 1 (sort_at rs y) 1 w) (λ xs ys rx ry. equal_reads s et l rx ry)

    pub row_sem : (first : ℕ) (f : Fields) (r : Record) (k : Counts) → Passes rs first f r k → (v : ℤ) → in_bits (uses f.kind) f.p v ≡ true
        → Sem s (bits_by (uses f.kind) f.p v ++ l) (row_steps cs f) l (λ c. Shows s r c (row_val vs f v))
    unfolding row_steps row_val
    row_sem first f r k a v b =
        subst (λ (q : Record). Sem s (bits_by (uses f.kind) f.p v ++ l) (row_steps cs f) l (λ c. Shows s q c (row_val vs f v))) (sym a.is_record)
        (sem_by first f.kind f.p f.x f.y f.z v a.ranged a.sorted b)
