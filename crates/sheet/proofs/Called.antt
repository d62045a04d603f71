-- Laws of outcomes: what it tells that a call's refusals all passed by. Assumes nothing.
use Rattle.std.specs.Prelude.{Result, Ok, Err}
use mathlib.Core.Path.{◌≡◌, refl, sym, ◌∙◌, ap, subst}
use mathlib.Core.Bool.{Bool, true, false, not, ◌&&◌}
use mathlib.Core.List.{List, [], ◌∷◌, map}
use Prim.Native.Nat.{ℕ, suc, ◌+◌, ◌*◌, ◌≤◌}
use native.Mathlib.Omega.{arith}
use borrow.Author.Tests.{eqb-true, ltb-false, lt-ltb, le-ltb, not-false}
use lib.Dec.{eqb, ltb}
use lib.ListN.{length}
use lib.IntN.{ℤ}
use Rattle.circuit.specs.Literals.{Assignment, Clause, clause_true, all_true}
use Rattle.sheet.specs.declared.Reason.{Reason}
use Rattle.sheet.specs.declared.Reason.TheVariants.{FewRecords, ShortMap, FewSlots, ValueCount, ValueOutside}
use Rattle.sheet.specs.declared.Refusal.{Refusal}
use Rattle.sheet.specs.Values.{unknowns, each_in_bits, every, Chosen}
use Rattle.sheet.specs.Acceptance.{Outcome, Sheet, accept}
use Rattle.sheet.specs.Calls.{◌>>=◌, ◌>>◌, ◌giving◌, refuse◌at◌if◌, false_at, row_count, unknown_count, checking, writing, choosing}

module _ {A E : Type 0} where
  pub refused_not : {r : E} {a : A} {X : Type 0} → ◌≡◌ {A = Result A E} (Err r) (Ok a) → X
  refused_not e = let z : ◌≡◌ {A = ℕ} 0 1 = cc in absurd (omega arith)

  pub same_accepted : {a b : A} → ◌≡◌ {A = Result A E} (Ok a) (Ok b) → a ≡ b
  same_accepted e = cc

-- a call that accepts has accepted step by step
module _ {A B : Type 0} where
  pub bound_accepts : (o : Outcome A) {f : A → Outcome B} {b : B} → (o >>= f) ≡ Ok b → (a : A) × (o ≡ Ok a) × (f a ≡ Ok b)
  bound_accepts (Err r) e = refused_not e
  bound_accepts (Ok a) e = (a, refl, e)

  pub then_accepts : (o : Outcome A) {rest : Outcome B} {b : B} → (o >> rest) ≡ Ok b → (a : A) × (o ≡ Ok a) × (rest ≡ Ok b)
  then_accepts (Err r) e = refused_not e
  then_accepts (Ok a) e = (a, refl, e)

-- what a call gives is refused only where the call refuses
module _ {A B : Type 0} where
  pub giving_refuses : (o : Outcome A) (f : A → B) {r : Refusal} → (o giving f) ≡ Err r → o ≡ Err r
  giving_refuses (Err r) f e = cc
  giving_refuses (Ok a) f e = refused_not (sym e)

-- a test that did not refuse; the rest follows
module _ {B : Type 0} where
  pub not_refused : (n : Reason) (p : ℕ) (t : Bool) {rest : Outcome B} {b : B} → ((refuse n at p if t) >> rest) ≡ Ok b → (t ≡ false) × (rest ≡ Ok b)
  not_refused n p true e = refused_not e
  not_refused n p false e = (refl, e)

-- a table that is checked or written is accepted, and one that is written has room
pub checking_tells : (table : List ℕ) (records : ℕ) {sheet : Sheet} → checking table records ≡ Ok sheet → accept table ≡ Ok sheet
unfolding checking
checking_tells table records e =
    let (a, accepts, rest) = bound_accepts (accept table) e in
    accepts ∙ (not_refused FewRecords (row_count a) (ltb records (row_count a)) rest).1

pub record Roomy (table : List ℕ) (sheet : Sheet) (map_room slot_room : ℕ) : Type 0 where
  pub is : accept table ≡ Ok sheet
  pub map : 48 * row_count sheet ≤ map_room
  pub slots : sheet.counts.slots ≤ slot_room

pub writing_tells : (table : List ℕ) (records map slots : ℕ) (sheet : Sheet) → writing table records map slots ≡ Ok sheet → Roomy table sheet map slots
unfolding writing
writing_tells table records map slots sheet e =
    let (a, checks, f) = bound_accepts (checking table records) e in
    let (long, g) = not_refused ShortMap (48 * row_count a) (ltb map (48 * row_count a)) f in
    let (wide, h) = not_refused FewSlots a.counts.slots (ltb slots a.counts.slots) g in
    subst (λ (b : Sheet). Roomy table b map slots) (same_accepted h)
    (record { is = checking_tells table records checks; map = ltb-false map (48 * row_count a) long; slots = ltb-false slots a.counts.slots wide })

-- the first that is false is one of them exactly if not every one is true
pub first_false_lem : (n : ℕ) (bs : List Bool) → ltb (false_at n bs) (n + length bs) ≡ not (every bs)
first_false_lem n [] = le-ltb n (n + 0) (omega arith)
first_false_lem n (true ∷ bs) = ap (ltb (false_at (n + 1) bs)) (omega arith) ∙ first_false_lem (n + 1) bs
first_false_lem n (false ∷ bs) = lt-ltb n (n + suc (length bs)) (omega arith)

pub every_clause : (s : Assignment) (cs : List Clause) → every (map (clause_true s) cs) ≡ all_true s cs
every_clause s [] = refl
every_clause s (c ∷ cs) = ap (λ (b : Bool). clause_true s c && b) (every_clause s cs)

-- values that pass the refusals of chosen values are chosen
pub choosing_tells : (table : List ℕ) (values : List ℤ) {sheet : Sheet} → choosing table values ≡ Ok sheet → (accept table ≡ Ok sheet) × Chosen sheet.rows values
unfolding choosing
choosing_tells table values {sheet} e =
    let (a, accepts, rest) = bound_accepts (accept table) e in
    let many = unknown_count a in
    let (number, rest₁) = not_refused ValueCount many (not (eqb (length values) many)) rest in
    let bs = each_in_bits (unknowns a.rows) values in
    let (inside, same) = not_refused ValueOutside (false_at 0 bs) (ltb (false_at 0 bs) (0 + length bs)) rest₁ in
    let all : every bs ≡ true = not-false (every bs) (sym (first_false_lem 0 bs) ∙ inside) in
    (accepts ∙ same, subst (λ (x : Sheet). Chosen x.rows values) (same_accepted same) (record { within = record { number = eqb-true (length values) many (not-false (eqb (length values) many) number); inside = all } }))
