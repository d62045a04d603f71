-- What evaluating leaves of chosen values: in the last row's place the constraint's truth. Assumes nothing.
use Rattle.std.specs.Prelude.{Ok}
use mathlib.Core.Path.{◌≡◌, refl, sym, ◌∙◌, ap}
use mathlib.Core.Bool.{false, not, false≢true}
use mathlib.Core.List.{List, [], ◌∷◌, ◌++◌, map}
use Prim.Native.Nat.{ℕ, ◌+◌, ◌-◌, ◌≤◌}
use native.Mathlib.Omega.{arith}
use borrow.Author.Tests.{le-ltb, eq-eqb}
use lib.Dec.{eqb, ltb}
use lib.ListN.{length, get_or, drop, length-append, length-map, get_or-append, get_or-map}
use lib.IntN.{ℤ, pos}
use Rattle.whole.specs.Bits.{bit}
use Rattle.circuit.specs.Counting.{the_first}
use Rattle.sheet.specs.declared.Fields.{Fields}
use Rattle.sheet.specs.declared.Record.{Record}
use Rattle.sheet.specs.Values.{Value, boolean, fraction, truth_of, numerator, value_at, row_val, values_from, row_values, unknowns, each_in_bits, Chosen}
use Rattle.sheet.specs.Acceptance.{record_at, Sheet, accept}
use Rattle.sheet.specs.Calls.{false_at, row_count, unknown_count, choosing, evaluating, left, constraint, done}
use Rattle.sheet.proofs.Accepted.{accepted_tells}
use Rattle.sheet.proofs.Called.{first_false_lem}
use Rattle.sheet.proofs.Widths.{Holds, hold_at}
use Rattle.promise.specs.Across.{rows_in, EvaluatesTo}
use Rattle.promise.proofs.Choices.{first, after, within_all}
use Rattle.promise.proofs.Counts.{counts_are_made}
use Rattle.promise.proofs.Fitting.{table_fits}
use Rattle.promise.proofs.Promise.{known}

values_many : (rows : List Fields) (earlier : List Value) (vs : List ℤ) → length (values_from earlier rows vs) ≡ length earlier + length rows
values_many [] earlier vs = omega arith
values_many (f ∷ rows) earlier vs =
    let v = row_val earlier f (first vs) in
    values_many rows (earlier ++ v ∷ []) (after f vs) ∙ omega (arith, length-append earlier (v ∷ []))

pub rows_many : (rows : List Fields) (vs : List ℤ) → length (row_values rows vs) ≡ length rows
unfolding row_values
rows_many rows vs = values_many rows [] vs ∙ omega arith

-- a row that is no number has the numerator of its truth
truth_numerator : (r : Record) (v : Value) → Holds r v → eqb r.sort 1 ≡ false → numerator v ≡ pos (bit (truth_of v))
truth_numerator r (boolean b) h e = refl
truth_numerator r (fraction n d) h e = absurd (false≢true (sym (rw h.sort at e)))

module _ (table : List ℕ) (sheet : Sheet) (e : accept table ≡ Ok sheet) (values : List ℤ) (chosen : Chosen sheet.rows values) where
  pub last_numerator : numerator (value_at (row_values sheet.rows values) (length sheet.rows - 1)) ≡ pos (bit (constraint sheet values))
  unfolding constraint row_values
  last_numerator =
      let k = known table sheet e in
      let vs = row_values sheet.rows values in
      let i = length sheet.rows - 1 in
      let h = table_fits sheet.rows [] [] tt the_first sheet.records k.total k.passed values (within_all sheet.rows values chosen.within) in
      truth_numerator (record_at sheet.records i) (value_at vs i) (hold_at sheet.records vs h i) k.ends

  evaluation : (room : ℕ) → row_count sheet ≤ room → evaluating table values room ≡ Ok sheet
  unfolding evaluating choosing
  evaluation room h =
      let bs = each_in_bits (unknowns sheet.rows) values in
      let t₁₄ : not (eqb (length values) (unknown_count sheet)) ≡ false = ap not (eq-eqb (length values) (unknown_count sheet) chosen.within.number) in
      let t₁₅ : ltb (false_at 0 bs) (0 + length bs) ≡ false = first_false_lem 0 bs ∙ ap not chosen.within.inside in
      let t₁₈ : ltb room (row_count sheet) ≡ false = le-ltb room (row_count sheet) h in
      rw (e, t₁₄, t₁₅, t₁₈)

  pub evaluated : EvaluatesTo (constraint sheet values) table values
  unfolding left
  evaluated results₀ answer results₁ room h =
      let is = accepted_tells table sheet e in
      let many = (counts_are_made table sheet e).records in
      let o = evaluation (length results₀) (omega (arith, is.many)) in
      let vs = row_values sheet.rows values in
      let long : length (map numerator vs) ≡ length sheet.rows = length-map vs numerator ∙ rows_many sheet.rows values in
      let place : rows_in table - 1 ≡ length sheet.rows - 1 = omega (arith, is.many) in
      let left_is : results₁ ≡ map numerator vs ++ drop (length (map numerator vs)) results₀ = rw o at h.results in (
        h.says ∙ ap done o,
        ap (λ (l : List ℤ). get_or l (rows_in table - 1) (pos 0)) left_is
            ∙ get_or-append (map numerator vs) (drop (length (map numerator vs)) results₀) (pos 0) (rows_in table - 1) (omega (arith, is.many, is.some))
            ∙ ap (λ (n : ℕ). get_or (map numerator vs) n (pos 0)) place
            ∙ get_or-map numerator vs (length sheet.rows - 1) (boolean false)
            ∙ last_numerator,
      )
