-- What acceptance tells: every row of an accepted table is read, passed every test, and has the record and counts of its plan.
-- Assumes nothing.
use Rattle.std.specs.Prelude.{Ok, Err}
use mathlib.Core.Path.{◌≡◌, refl, sym, ◌∙◌, ap, subst}
use mathlib.Core.Bool.{Bool, true, false, not, false≢true}
use mathlib.Core.List.{List, [], ◌∷◌, ◌++◌, append_assoc, append-nil}
use Prim.Native.Nat.{ℕ, zero, suc, ◌+◌, ◌*◌, ◌-◌, ◌/◌, ◌%◌, ◌≤◌, ◌<◌}
use native.Mathlib.Omega.{arith}
use lib.Dec.{eqb, ltb}
use lib.ListN.{length, take, drop, length-append}
use borrow.Author.Tests.{ltb-false, eqb-true, not-false}
use Rattle.whole.specs.Tests.{if◌then◌otherwise◌}
use Rattle.circuit.specs.declared.Counts.{Counts}
use Rattle.circuit.specs.Counting.{◌⊕◌, the_first, the_last}
use Rattle.sheet.specs.declared.Kind.{Kind}
use Rattle.sheet.specs.declared.Kind.TheVariants.{BooleanConstant, BooleanUnknown, NaturalUnknown, IntegerUnknown, NumberConstant, Not, And, Or, Implies, Iff, Sum, Difference, Product, Choice, Greater, Equal}
use Rattle.sheet.specs.declared.Fields.{Fields}
use Rattle.sheet.specs.declared.Record.{Record}
use Rattle.sheet.specs.declared.Passed.{Passed as RowPassed}
use Rattle.sheet.specs.declared.Reason.{Reason}
use Rattle.sheet.specs.declared.Reason.TheVariants.{OutOfRange, NotEarlier, WrongSort, LargeDenominator, TooWide}
use Rattle.sheet.specs.Rows.{Reading, read_row, and_rows, rows_of, uses}
use Rattle.sheet.specs.Acceptance.{out_of_range, sorts_in, some_not_earlier, some_of_wrong_sort, Plan, meeting, larger, plan_by, Verdict, stop◌if◌else◌, record_by, record_at, judge, Outcome, refused, Sheet, onward, walk, accept}
-- named so that the examples are checked before every law: a wrong definition is refused first by what an example computes
use Rattle.sheet.proofs.Called.{refused_not, same_accepted}

-- what is said of the records of the rows x and y, by their numbers
abbrev pub sort_at : List Record → ℕ → ℕ
sort_at rs x = (record_at rs x).sort

abbrev pub meeting_at : List Record → (x y : ℕ) → ℕ
meeting_at rs x y = meeting (record_at rs x) (record_at rs y)

abbrev pub larger_at : List Record → (x y : ℕ) → ℕ
larger_at rs x y = larger (record_at rs x) (record_at rs y)

abbrev pub plan_at : List Record → Kind → (p x y z : ℕ) → Plan
plan_at rs k p x y z = plan_by k p x y z (record_at rs x) (record_at rs y) (record_at rs z)

abbrev pub Sorted : List Record → Kind → (x y z : ℕ) → Type 0
Sorted rs k x y z = some_of_wrong_sort (sorts_in (uses k)) (record_at rs x ∷ record_at rs y ∷ record_at rs z ∷ []) ≡ false

abbrev pub plan_for : List Record → Fields → Plan
plan_for earlier f = plan_at earlier f.kind f.p f.x f.y f.z

-- a row that passes after earlier ones, with record r and counts k
pub record Passes (earlier : List Record) (first : ℕ) (f : Fields) (r : Record) (k : Counts) : Type 0 where
  pub ranged : out_of_range (uses f.kind) f.p f.x f.z ≡ false
  pub named : some_not_earlier (length earlier) (sorts_in (uses f.kind)) (f.x ∷ f.y ∷ f.z ∷ []) ≡ false
  pub sorted : Sorted earlier f.kind f.x f.y f.z
  pub common : (plan_for earlier f).common ≤ 4096
  pub widest : (plan_for earlier f).widest ≤ 48
  pub is_record : r ≡ record_by first (plan_for earlier f)
  pub is_counts : k ≡ (plan_for earlier f).counts

-- no row is wider than its places in the map
plan_narrow : (k : Kind) (p x y z : ℕ) (a b c : Record) → (plan_by k p x y z a b c).widest ≤ 48 → (plan_by k p x y z a b c).width ≤ 48
plan_narrow BooleanConstant p x y z a b c h = h
plan_narrow BooleanUnknown p x y z a b c h = h
plan_narrow NaturalUnknown p x y z a b c h = h
plan_narrow IntegerUnknown p x y z a b c h = h
plan_narrow NumberConstant p x y z a b c h = h
plan_narrow Not p x y z a b c h = h
plan_narrow And p x y z a b c h = h
plan_narrow Or p x y z a b c h = h
plan_narrow Implies p x y z a b c h = h
plan_narrow Iff p x y z a b c h = h
plan_narrow Sum p x y z a b c h = h
plan_narrow Difference p x y z a b c h = h
plan_narrow Product p x y z a b c h = h
plan_narrow Choice p x y z a b c h = h
plan_narrow Greater p x y z a b c h = omega arith
plan_narrow Equal p x y z a b c h = omega arith

pub passes_narrow : {earlier : List Record} {first : ℕ} {f : Fields} {r : Record} {k : Counts} → Passes earlier first f r k → r.width ≤ 48
passes_narrow {earlier} {f = f} p =
    rw p.is_record (plan_narrow f.kind f.p f.x f.y f.z (record_at earlier f.x) (record_at earlier f.y) (record_at earlier f.z) p.widest)

-- rows that pass one after the other, to the records and the counts of all
abbrev pub Passed : List Record → Counts → List Fields → List Record → Counts → Type 0
Passed earlier so [] records total = (earlier ≡ records) × (so ≡ total)
Passed earlier so (f ∷ rows) records total = (r : Record) × (k : Counts) × Passes earlier so.slots f r k × Passed (earlier ++ r ∷ []) (so ⊕ k) rows records total

-- the records before a row stand at the front of all
pub passed_front : (rows : List Fields) (rs : List Record) (so : Counts) (records : List Record) (total : Counts) → Passed rs so rows records total → (rest : List Record) × (records ≡ rs ++ rest)
passed_front [] rs so records total p = ([], sym p.0 ∙ sym (append-nil rs))
passed_front (f ∷ rows) rs so records total p =
    let (rest, e) = passed_front rows (rs ++ p.0 ∷ []) (so ⊕ p.1) records total p.3 in
    (p.0 ∷ rest, e ∙ append_assoc rs (p.0 ∷ []) rest)

pub passed_many : (rows : List Fields) (rs : List Record) (so : Counts) (records : List Record) (total : Counts) → Passed rs so rows records total → length records ≡ length rs + length rows
passed_many [] rs so records total p = rw (sym p.0) (omega arith)
passed_many (f ∷ rows) rs so records total p = passed_many rows (rs ++ p.0 ∷ []) (so ⊕ p.1) records total p.3 ∙ rw (length-append rs (p.0 ∷ [])) (omega arith)

passed_split : (before rest : List Fields) (rs : List Record) (so : Counts) (records : List Record) (total : Counts) → Passed rs so (before ++ rest) records total
    → (mid : List Record) × (k : Counts) × Passed rs so before mid k × Passed mid k rest records total
passed_split [] rest rs so records total p = (rs, so, (refl, refl), p)
passed_split (f ∷ before) rest rs so records total p =
    let (mid, k, q, r) = passed_split before rest (rs ++ p.0 ∷ []) (so ⊕ p.1) records total p.3 in
    (mid, k, (p.0, p.1, p.2, q), r)

-- a row that passes behind others, which pass too
pub record Behind (records : List Record) (before : List Fields) (f : Fields) : Type 0 where
  pub earlier : List Record
  pub so : Counts
  pub passed : Passed [] the_first before earlier so
  pub own : Record
  pub counts : Counts
  pub passes : Passes earlier so.slots f own counts
  pub rest : List Record
  pub front : records ≡ earlier ++ own ∷ rest
  pub place : length earlier ≡ length before

pub passed_behind : (before : List Fields) (f : Fields) (behind : List Fields) (records : List Record) (total : Counts) → Passed [] the_first (before ++ f ∷ behind) records total → Behind records before f
passed_behind before f behind records total p =
    let (earlier, so, q, r) = passed_split before (f ∷ behind) [] the_first records total p in
    let (rest, e) = passed_front behind (earlier ++ r.0 ∷ []) (so ⊕ r.1) records total r.3 in
    record {
      earlier = earlier;
      so = so;
      passed = q;
      own = r.0;
      counts = r.1;
      passes = r.2;
      rest = rest;
      front = e ∙ append_assoc earlier (r.0 ∷ []) rest;
      place = passed_many before [] the_first earlier so q ∙ omega arith;
    }

not_stopped : (n : Reason) (b : Bool) (v : Verdict) {p : RowPassed} → (stop n if b else v) ≡ Ok p → (b ≡ false) × (v ≡ Ok p)
not_stopped n true v e = refused_not e
not_stopped n false v e = (refl, e)

pub judge_passes : (earlier : List Record) (first : ℕ) (f : Fields) (p : RowPassed) → judge earlier first (Ok f) ≡ Ok p → Passes earlier first f p.row p.counts
unfolding judge
judge_passes earlier first f p e =
    let e₅ = not_stopped OutOfRange _ _ e in
    let e₆ = not_stopped NotEarlier (some_not_earlier (length earlier) (sorts_in (uses f.kind)) (f.x ∷ f.y ∷ f.z ∷ [])) _ e₅.1 in
    let e₇ = not_stopped WrongSort _ _ e₆.1 in
    let e₈ = not_stopped LargeDenominator _ _ e₇.1 in
    let e₉ = not_stopped TooWide _ _ e₈.1 in
    let same = sym (same_accepted e₉.1) in
    record {
      ranged = e₅.0;
      named = e₆.0;
      sorted = e₇.0;
      common = ltb-false _ _ e₈.0;
      widest = ltb-false _ _ e₉.0;
      is_record = ap (λ (p : RowPassed). p.row) same;
      is_counts = ap (λ (p : RowPassed). p.counts) same;
    }

-- what a walk that ends well tells
pub record Walked (table : List ℕ) (earlier : List Record) (so : Counts) (rows : List Fields) (left : ℕ) (sheet : Sheet) : Type 0 where
  pub total : Counts
  pub passed : Passed earlier so rows sheet.records total
  pub counted : sheet.counts ≡ total ⊕ the_last
  pub many : length sheet.records ≡ length earlier + left
  pub ends : eqb (sort_at sheet.records (length sheet.records - 1)) 1 ≡ false
  pub read : sheet.rows ≡ rows_of (length sheet.records) table

not_refused : (b : Bool) (n : Reason) (p : ℕ) (o : Outcome Sheet) {sheet : Sheet} → (if b then refused n p otherwise o) ≡ Ok sheet → (b ≡ false) × (o ≡ Ok sheet)
not_refused true n p o e = refused_not e
not_refused false n p o e = (refl, e)

walk_tells : (table : List ℕ) (left : ℕ) (earlier : List Record) (so : Counts) (bytes : List ℕ) (sheet : Sheet)
    → walk table earlier so left bytes ≡ Ok sheet → Walked table earlier so (rows_of left bytes) left sheet
unfolding walk rows_of judge
walk_tells table zero earlier so bytes sheet e =
    let h = not_refused (eqb (sort_at earlier (length earlier - 1)) 1) _ _ _ e in
    let same = sym (same_accepted h.1) in
    record {
      total = so;
      passed = (ap (λ (s : Sheet). s.records) (sym same), refl);
      counted = ap (λ (s : Sheet). s.counts) same;
      many = ap (λ (s : Sheet). length s.records) same ∙ omega arith;
      ends = rw same h.0;
      read = rw same;
    }
walk_tells table (suc left) earlier so bytes sheet e = step (read_row (take 8 bytes)) e (λ rs k. walk_tells table left rs k (drop 8 bytes) sheet)
  where
    rest : List Record → Counts → Outcome Sheet
    rest rs k = walk table rs k left (drop 8 bytes)

    Rest : Type 0
    Rest = (rs : List Record) (k : Counts) → rest rs k ≡ Ok sheet → Walked table rs k (rows_of left (drop 8 bytes)) left sheet

    onwards : (f : Fields) (v : Verdict) → judge earlier so.slots (Ok f) ≡ v → onward v earlier so rest ≡ Ok sheet → Rest
        → Walked table earlier so (f ∷ rows_of left (drop 8 bytes)) (suc left) sheet
    onwards f (Err n) q e h = refused_not e
    onwards f (Ok p) q e h =
        let w = h (earlier ++ p.row ∷ []) (so ⊕ p.counts) e in
        record {
          total = w.total;
          passed = (p.row, p.counts, judge_passes earlier so.slots f p q, w.passed);
          counted = w.counted;
          many = w.many ∙ rw (length-append earlier (p.row ∷ [])) (omega arith);
          ends = w.ends;
          read = w.read;
        }

    step : (reading : Reading) → onward (judge earlier so.slots reading) earlier so rest ≡ Ok sheet → Rest
        → Walked table earlier so (and_rows reading (rows_of left (drop 8 bytes))) (suc left) sheet
    step (Err n) e h = refused_not e
    step (Ok f) e h = onwards f (judge earlier so.slots (Ok f)) refl e h

-- bytes in eights, and at least one
at_least_one : (n : ℕ) → eqb n 0 ≡ false → not (eqb (n % 8) 0) ≡ false → 0 < n / 8
at_least_one zero h k = absurd (false≢true (sym h))
at_least_one (suc n) h k = let z : suc n % 8 ≡ 0 = eqb-true (suc n % 8) 0 (not-false (eqb (suc n % 8) 0) k) in omega arith

pub record IsAccepted (table : List ℕ) (sheet : Sheet) : Type 0 where
  pub total : Counts
  pub passed : Passed [] the_first sheet.rows sheet.records total
  pub counted : sheet.counts ≡ total ⊕ the_last
  pub many : length sheet.records ≡ length table / 8
  pub some : 0 < length sheet.records
  pub ends : eqb (sort_at sheet.records (length sheet.records - 1)) 1 ≡ false
  pub read : sheet.rows ≡ rows_of (length table / 8) table
  pub bytes : length table ≡ 8 * length sheet.records
  pub few : length sheet.records ≤ 256

walked_accepted : (table : List ℕ) (sheet : Sheet) → Walked table [] the_first (rows_of (length table / 8) table) (length table / 8) sheet → 0 < length table / 8
    → length table % 8 ≡ 0 → length table / 8 ≤ 256 → IsAccepted table sheet
walked_accepted table sheet w h eights small =
    let many : length sheet.records ≡ length table / 8 = w.many ∙ omega arith in
    let rows : sheet.rows ≡ rows_of (length table / 8) table = w.read ∙ ap (λ (n : ℕ). rows_of n table) many in
    record {
      total = w.total;
      passed = subst (λ (fs : List Fields). Passed [] the_first fs sheet.records w.total) (sym rows) w.passed;
      counted = w.counted;
      many = many;
      some = omega arith;
      ends = w.ends;
      read = rows;
      bytes = omega (arith, many);
      few = omega (arith, many);
    }

pub accepted_tells : (table : List ℕ) (sheet : Sheet) → accept table ≡ Ok sheet → IsAccepted table sheet
unfolding accept
accepted_tells table sheet e =
    let filled = not_refused (eqb (length table) 0) _ _ _ e in
    let whole = not_refused (not (eqb (length table % 8) 0)) _ _ _ filled.1 in
    let few = not_refused (ltb 256 (length table / 8)) _ _ _ whole.1 in
    walked_accepted table sheet (walk_tells table (length table / 8) [] the_first table sheet few.1) (at_least_one (length table) filled.0 whole.0) (eqb-true (length table % 8) 0 (not-false (eqb (length table % 8) 0) whole.0))
    (ltb-false 256 (length table / 8) few.0)
