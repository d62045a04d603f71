-- A refusal of acceptance is one of 1 to 10: of a reading 3 or 4, of a verdict up to 9. Assumes nothing.
use Rattle.std.specs.Prelude.{Result, Ok, Err}
use mathlib.Core.Path.{subst}
use mathlib.Core.Bool.{Bool, true, false, not}
use mathlib.Core.List.{List, [], ◌∷◌, ◌++◌}
use Prim.Native.Nat.{ℕ, zero, suc, ◌-◌, ◌/◌, ◌%◌, ◌≤◌, ◌<◌}
use native.Mathlib.Omega.{arith}
use lib.Dec.{eqb, ltb}
use lib.ListN.{length, get_or, take, drop}
use Rattle.whole.specs.Tests.{if◌then◌otherwise◌}
use Rattle.circuit.specs.declared.Counts.{Counts}
use Rattle.circuit.specs.Counting.{◌⊕◌, the_first}
use Rattle.sheet.specs.declared.Kind.{Kind}
use Rattle.sheet.specs.declared.Kind.TheVariants.{BooleanConstant, BooleanUnknown, NaturalUnknown, IntegerUnknown, NumberConstant, Not, And, Or, Implies, Iff, Sum, Difference, Product, Choice, Greater, Equal}
use Rattle.sheet.specs.declared.Reason.{Reason}
use Rattle.sheet.specs.declared.Reason.TheVariants.{WrongLength, TooManyRows, UnknownKind, UnusedField, OutOfRange, NotEarlier, WrongSort, LargeDenominator, TooWide, EndsInNumber}
use Rattle.sheet.specs.declared.Record.{Record}
use Rattle.sheet.specs.Rows.{Reading, named, uses, unused, all_zero, fields, of_kind, read_row}
use Rattle.sheet.specs.Acceptance.{refusal_number, out_of_range, sorts_in, some_not_earlier, some_of_wrong_sort, plan_by, Verdict, stop◌if◌else◌, record_at, judge, Outcome, refused, Sheet, onward, walk, accept}
use Rattle.table.specs.Refusals.{Refusals}

abbrev OneToTen : Reason → Type 0
OneToTen reason = (0 < refusal_number reason) × (refusal_number reason ≤ 10)

-- of a kind, a reading or a verdict; and of an outcome
module _ {A : Type 0} where
  abbrev Within : Result A Reason → Type 0
  Within (Ok a) = Unit {0}
  Within (Err reason) = OneToTen reason

  if_ok : (b : Bool) (a : A) (r : Result A Reason) → Within r → Within (if b then Ok a otherwise r)
  if_ok true a r h = tt
  if_ok false a r h = h

abbrev Refuses : Outcome Sheet → Type 0
Refuses (Ok sheet) = Unit {0}
Refuses (Err refusal) = OneToTen refusal.reason

-- ---- a row

kind_within : (k : ℕ) → Within (named k)
unfolding named
kind_within k =
    if_ok (eqb k 0x00) BooleanConstant _
    (if_ok (eqb k 0x01) BooleanUnknown _
    (if_ok (eqb k 0x02) NaturalUnknown _
    (if_ok (eqb k 0x03) IntegerUnknown _
    (if_ok (eqb k 0x04) NumberConstant _
    (if_ok (eqb k 0x10) Not _
    (if_ok (eqb k 0x11) And _
    (if_ok (eqb k 0x12) Or _
    (if_ok (eqb k 0x13) Implies _
    (if_ok (eqb k 0x14) Iff _
    (if_ok (eqb k 0x20) Sum _
    (if_ok (eqb k 0x21) Difference _
    (if_ok (eqb k 0x22) Product _
    (if_ok (eqb k 0x23) Choice _
    (if_ok (eqb k 0x30) Greater _
    (if_ok (eqb k 0x31) Equal (Err UnknownKind) (omega arith, omega arith))))))))))))))))

of_kind_within : (row : List ℕ) (k : Result Kind Reason) → Within k → Within (of_kind row k)
of_kind_within row (Err reason) h = h
of_kind_within row (Ok k) h = let f = fields row k in if_ok (all_zero (unused (uses k) f.p f.x f.y f.z)) f (Err UnusedField) (omega arith, omega arith)

reading_within : (row : List ℕ) → Within (read_row row)
unfolding read_row
reading_within row = of_kind_within row (named (get_or row 0 0)) (kind_within (get_or row 0 0))

if_stops : (reason : Reason) (b : Bool) (v : Verdict) → OneToTen reason → Within v → Within (stop reason if b else v)
if_stops reason true v h k = h
if_stops reason false v h k = k

verdict_within : (earlier : List Record) (first : ℕ) (r : Reading) → Within r → Within (judge earlier first r)
unfolding judge
verdict_within earlier first (Err reason) h = h
verdict_within earlier first (Ok f) h =
    let a = record_at earlier f.x in
    let b = record_at earlier f.y in
    let c = record_at earlier f.z in
    let sorts = sorts_in (uses f.kind) in
    let plan = plan_by f.kind f.p f.x f.y f.z a b c in
    if_stops OutOfRange (out_of_range (uses f.kind) f.p f.x f.z) _ (omega arith, omega arith)
    (if_stops NotEarlier (some_not_earlier (length earlier) sorts (f.x ∷ f.y ∷ f.z ∷ [])) _ (omega arith, omega arith)
    (if_stops WrongSort (some_of_wrong_sort sorts (a ∷ b ∷ c ∷ [])) _ (omega arith, omega arith)
    (if_stops LargeDenominator (ltb 4096 plan.common) _ (omega arith, omega arith)
    (if_stops TooWide (ltb 48 plan.widest) _ (omega arith, omega arith) tt))))

-- ---- a table

if_refuses : (b : Bool) (reason : Reason) (place : ℕ) (o : Outcome Sheet) → OneToTen reason → Refuses o → Refuses (if b then refused reason place otherwise o)
if_refuses true reason place o h k = h
if_refuses false reason place o h k = k

onward_refuses : (v : Verdict) (earlier : List Record) (so : Counts) (rest : List Record → Counts → Outcome Sheet) → Within v
    → ((rs : List Record) (k : Counts) → Refuses (rest rs k)) → Refuses (onward v earlier so rest)
onward_refuses (Err reason) earlier so rest h k = h
onward_refuses (Ok passed) earlier so rest h k = k (earlier ++ passed.row ∷ []) (so ⊕ passed.counts)

walk_refuses : (left : ℕ) (table : List ℕ) (earlier : List Record) (so : Counts) (bytes : List ℕ) → Refuses (walk table earlier so left bytes)
unfolding walk
walk_refuses zero table earlier so bytes =
    if_refuses (eqb (record_at earlier (length earlier - 1)).sort 1) EndsInNumber (length earlier - 1) _ (omega arith, omega arith) tt
walk_refuses (suc left) table earlier so bytes =
    onward_refuses (judge earlier so.slots (read_row (take 8 bytes))) earlier so _ (verdict_within earlier so.slots _ (reading_within (take 8 bytes)))
    (λ rs k. walk_refuses left table rs k (drop 8 bytes))

accept_refuses : (table : List ℕ) → Refuses (accept table)
unfolding accept
accept_refuses table =
    if_refuses (eqb (length table) 0) WrongLength 0 _ (omega arith, omega arith)
    (if_refuses (not (eqb (length table % 8) 0)) WrongLength 0 _ (omega arith, omega arith)
    (if_refuses (ltb 256 (length table / 8)) TooManyRows 0 _ (omega arith, omega arith) (walk_refuses (length table / 8) table [] the_first table)))

pub refusals : Refusals
refusals table reason place e = subst Refuses e (accept_refuses table)
