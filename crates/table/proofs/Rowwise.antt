-- An accepted sheet: as many records as rows, at most 256, all within the limits; and its rows one by one, each passing behind those
-- before it. Assumes nothing.
use mathlib.Core.Path.{◌≡◌, sym, ap, ◌∙◌, subst}
use mathlib.Core.List.{List, [], ◌∷◌, ◌++◌}
use Prim.Native.Nat.{ℕ, ◌+◌, ◌≤◌, ◌<◌, min}
use native.Mathlib.Numerals.{add-one}
use native.Mathlib.Omega.{arith}
use lib.ListN.{length, get_or, take, drop}
use lib.Seq.{take_at, get_or_at, take-suc, drop-cons, get_or-take, length-take-le}
use Rattle.std.specs.List.{All}
use Rattle.std.proofs.lemmas.List.{get_or_default, take-append-drop}
use Rattle.circuit.specs.declared.Counts.{Counts}
use Rattle.circuit.specs.Circuits.{gates}
use Rattle.circuit.specs.Counting.{the_first}
use Rattle.sheet.specs.declared.Kind.TheVariants.{BooleanConstant}
use Rattle.sheet.specs.declared.Fields.{Fields}
use Rattle.sheet.specs.declared.Record.{Record}
use Rattle.sheet.specs.Acceptance.{missing, record_at, Sheet}
use Rattle.sheet.specs.Steps.{steps, cells}
use Rattle.sheet.proofs.Accepted.{Passes, Passed, passed_many, passed_behind, IsAccepted, accepted_tells}
use Rattle.sheet.proofs.Counted.{cell_at_lem}
use Rattle.sheet.proofs.Few.{Few, counts_few}
use Rattle.sheet.proofs.Total.{whole_table}
use Rattle.judge.specs.Bounds.{InLimits}
use Rattle.table.specs.Accepted.{Accepted}
use Rattle.table.proofs.Limits.{limits_at, rows_limits}

-- ---- rows and records as they are read, whatever stands where there is none

-- what the program logic reads where a slice has no element
abbrev pub no_fields : Fields
no_fields = record { kind = BooleanConstant; p = 0; x = 0; y = 0; z = 0 }

abbrev pub zeros : Record
zeros = record { sort = 0; width = 0; denominator = 0; first = 0; slots = 0 }

pub own_record : (records : List Record) (x : ℕ) (d : Record) → x < length records → get_or records x d ≡ record_at records x
own_record records x d h = get_or_default records x d missing h

pub earlier_record : (records : List Record) (r x : ℕ) (d : Record) → r ≤ length records → x < r → get_or records (min x r) d ≡ record_at (take r records) x
earlier_record records r x d h k =
    let e : min x r ≡ x = omega arith in
    rw e (own_record records x d (omega arith) ∙ sym (get_or-take r records x missing k))

-- ---- row r passes behind the r rows before it

pub record Row (sheet : Sheet) (r : ℕ) (f : Fields) : Type 0 where
  pub at : ℕ
  pub counts : Counts
  pub passes : Passes (take r sheet.records) at f (record_at sheet.records r) counts
  pub front : take (r + 1) sheet.records ≡ take r sheet.records ++ record_at sheet.records r ∷ []
  pub ahead : drop r sheet.rows ≡ f ∷ drop (r + 1) sheet.rows

front_own : (records earlier : List Record) (own : Record) (rest : List Record) (r : ℕ) → records ≡ earlier ++ own ∷ rest → length earlier ≡ r
    → (take r records ≡ earlier) × (record_at records r ≡ own)
front_own records earlier own rest r e place = rw e (take_at earlier (own ∷ rest) r place, get_or_at earlier own rest missing r place)

some_made : (rows : List Fields) → 0 < length (gates 0 (steps rows))
unfolding steps
some_made rows = omega arith

module _ {sheet : Sheet} (a : Accepted sheet) where
  abbrev pub tells : IsAccepted a.table sheet
  tells = accepted_tells a.table sheet a.is

  pub as_many : length sheet.records ≡ length sheet.rows
  as_many = passed_many sheet.rows [] the_first sheet.records tells.total tells.passed ∙ omega arith

  pub some_rows : 0 < length sheet.rows
  some_rows = omega (arith, tells.some, as_many)

  pub few_rows : length sheet.rows ≤ 256
  few_rows = omega (arith, tells.few, as_many)

  pub few_counts : Few 12800002 sheet.counts
  few_counts = counts_few a.table sheet a.is

  pub all_limits : All InLimits sheet.records
  all_limits = rows_limits sheet.rows [] the_first sheet.records tells.total (λ k d h. absurd (omega arith)) tells.passed

  pub limits : (x : ℕ) → InLimits (record_at sheet.records x)
  limits = limits_at sheet.records all_limits

  pub some_width : (x : ℕ) → 0 < (record_at sheet.records x).width
  some_width x = (cell_at_lem _ (some_made sheet.rows) sheet.records (cells sheet.rows) (whole_table sheet tells.total tells.passed).fit x).some

  pub row : (r : ℕ) (d : Fields) → r < length sheet.rows → Row sheet r (get_or sheet.rows r d)
  row r d h =
      let f = get_or sheet.rows r d in
      let ahead : drop r sheet.rows ≡ f ∷ drop (r + 1) sheet.rows = rw (add-one r) (drop-cons sheet.rows r d h) in
      let split : sheet.rows ≡ take r sheet.rows ++ f ∷ drop (r + 1) sheet.rows = sym (take-append-drop r sheet.rows) ∙ ap (λ (fs : List Fields). take r sheet.rows ++ fs) ahead in
      let b = passed_behind (take r sheet.rows) f (drop (r + 1) sheet.rows) sheet.records tells.total (subst (λ (fs : List Fields). Passed [] the_first fs sheet.records tells.total) split tells.passed) in
      let place : length b.earlier ≡ r = b.place ∙ length-take-le r sheet.rows (omega arith) in
      let (front, own) = front_own sheet.records b.earlier b.own b.rest r b.front place in
      record {
        at = b.so.slots;
        counts = b.counts;
        passes = rw (front, own) b.passes;
        front = rw (add-one r) (take-suc sheet.records r missing (omega (arith, as_many)));
        ahead = ahead;
      }
