-- Demand 3, for every accepted table and all chosen values. Assumes nothing.
use Rattle.std.specs.Prelude.{Ok}
use mathlib.Core.Path.{◌≡◌, sym, ◌∙◌, ap, subst}
use mathlib.Core.Bool.{true, false, or-false, false≢true}
use mathlib.Core.List.{List, [], ◌∷◌, ◌++◌}
use Prim.Native.Nat.{ℕ, ◌-◌}
use native.Mathlib.Omega.{arith}
use lib.Dec.{eqb}
use lib.ListN.{length, get_or}
use lib.IntN.{ℤ}
use Rattle.circuit.specs.declared.Counts.{Counts}
use Rattle.circuit.specs.Literals.{truth, falsity, Assignment, lit_true, clause_true, all_true}
use Rattle.circuit.specs.Circuits.{gates, run}
use Rattle.circuit.specs.Counting.{◌⊕◌, the_first}
use Rattle.circuit.proofs.Wellformed.{count}
use Rattle.circuit.proofs.Assignments.{holds_of, of_holds, frees, unique, run_length, run_frees, run_holds}
use Rattle.sheet.specs.declared.Fields.{Fields}
use Rattle.sheet.specs.declared.Record.{Record}
use Rattle.sheet.specs.Values.{Value, boolean, fraction, truth_of, value_at, row_values, Chosen}
use Rattle.sheet.specs.Acceptance.{record_at, Sheet, accept}
use Rattle.sheet.specs.Steps.{Cell, cell_at, lit, steps, cells, clauses_but_last, last_clause, settings, unknown_bits, extension}
use Rattle.sheet.specs.Calls.{constraint}
use Rattle.sheet.proofs.Accepted.{Passed, passed_many, accepted_tells}
use Rattle.sheet.proofs.Meant.{Shows, ShowAll, show_at}
use Rattle.promise.specs.Promise.{Carries, Promise, DemandThree}
use Rattle.sheet.proofs.Total.{Whole, whole_table}
use Rattle.promise.proofs.Choices.{AllIn, within_all, all_within, all_bits_many, Ranged, FromBits}
use Rattle.promise.proofs.Readings.{Reading, carried, model_carries}
use Rattle.promise.proofs.Fitting.{all_wide}

passed_ranged : (rows : List Fields) (rs : List Record) (so : Counts) (records : List Record) (total : Counts) → Passed rs so rows records total → Ranged rows
passed_ranged [] rs so records total p = tt
passed_ranged (f ∷ rows) rs so records total p = (p.2.ranged, passed_ranged rows (rs ++ p.0 ∷ []) (so ⊕ p.1) records total p.3)

-- a row that is no number shows its truth
shows_truth : (s : Assignment) (r : Record) (c : Cell) (v : Value) → Shows s r c v → eqb r.sort 1 ≡ false → lit_true s (get_or c.literals 0 falsity) ≡ truth_of v
shows_truth s r c (boolean b) h e = h.reads
shows_truth s r c (fraction n d) h e = absurd (false≢true (sym (rw h.sorted at e)))

-- what is known of an accepted sheet
pub record Known (sheet : Sheet) : Type 0 where
  pub total : Counts
  pub passed : Passed [] the_first sheet.rows sheet.records total
  pub whole : Whole sheet total
  pub ranged : Ranged sheet.rows
  pub variables : length (gates 0 (steps sheet.rows)) ≡ sheet.counts.variables
  pub ends : eqb (record_at sheet.records (length sheet.rows - 1)).sort 1 ≡ false

pub known : (table : List ℕ) (sheet : Sheet) → accept table ≡ Ok sheet → Known sheet
known table sheet e =
    let is = accepted_tells table sheet e in
    let whole = whole_table sheet is.total is.passed in
    let many = passed_many sheet.rows [] the_first sheet.records is.total is.passed in
    let v = ap (λ (k : Counts). k.variables) is.counted in
    record {
      total = is.total;
      passed = is.passed;
      whole = whole;
      ranged = passed_ranged sheet.rows [] the_first sheet.records is.total is.passed;
      variables = omega (arith, whole.variables);
      ends = subst (λ (n : ℕ). eqb (record_at sheet.records (n - 1)).sort 1 ≡ false) (many ∙ omega arith) is.ends;
    }

module _ (sheet : Sheet) (k : Known sheet) where
  -- any assignment that meets every clause but the last carries the values that its unknowns read as
  pub model_tells : (s : Assignment) → all_true s (clauses_but_last sheet.rows) ≡ true
      → FromBits sheet.rows (settings sheet s) (frees s 0 (gates 0 (steps sheet.rows))) × Reading sheet k.total k.passed k.whole s (settings sheet s)
  model_tells s m = model_carries sheet k.total k.passed k.whole s k.ranged m

  pub model_chosen : (s : Assignment) → all_true s (clauses_but_last sheet.rows) ≡ true → Chosen sheet.rows (settings sheet s)
  model_chosen s m = let c = (model_tells s m).0 in record { within = all_within sheet.rows (settings sheet s) c.number c.inside }

  -- the last clause, under an assignment in which every row shows its value
  last_shown : (s : Assignment) → lit_true s truth ≡ true → (values : List ℤ) → ShowAll s sheet.records (cells sheet.rows) (row_values sheet.rows values)
      → clause_true s (last_clause sheet.rows) ≡ constraint sheet values
  unfolding last_clause constraint
  last_shown s et values h =
      let i = length sheet.rows - 1 in
      let vs = row_values sheet.rows values in
      or-false (lit_true s (lit (cell_at (cells sheet.rows) i)))
      ∙ shows_truth s (record_at sheet.records i) (cell_at (cells sheet.rows) i) (value_at vs i) (show_at s et sheet.records (cells sheet.rows) vs h i) k.ends

  pub model_last : (s : Assignment) → all_true s (clauses_but_last sheet.rows) ≡ true → clause_true s (last_clause sheet.rows) ≡ constraint sheet (settings sheet s)
  unfolding clauses_but_last steps
  model_last s m = last_shown s (holds_of s 0 (gates 0 (steps sheet.rows)) m).0 (settings sheet s) (model_tells s m).1.shows

  module _ (values : List ℤ) (chosen : Chosen sheet.rows values) where
    inside : AllIn sheet.rows values
    inside = within_all sheet.rows values chosen.within

    bits_enough : length (unknown_bits sheet.rows values) ≡ count (gates 0 (steps sheet.rows))
    bits_enough = all_bits_many sheet.rows values ∙ sym k.whole.asked

    one : Carries sheet values (extension sheet.rows values)
    unfolding extension clauses_but_last
    one =
        let gs = gates 0 (steps sheet.rows) in
        let bits = unknown_bits sheet.rows values in
        let h = run_holds [] gs bits k.whole.formed bits_enough in
        record {
          sized = run_length [] gs bits ∙ k.variables;
          meets = of_holds (run [] gs bits) 0 gs h;
          reads = (carried sheet k.total k.passed k.whole (run [] gs bits) values chosen.within.number inside h (run_frees [] gs bits bits_enough)).settled;
        }

    alone : (s : Assignment) → Carries sheet values s → s ≡ extension sheet.rows values
    unfolding extension clauses_but_last
    alone s c =
        let gs = gates 0 (steps sheet.rows) in
        unique [] gs s k.whole.formed (c.sized ∙ sym k.variables) (holds_of s 0 gs c.meets)
        ∙ ap (run [] gs) (sym (model_tells s c.meets).0.bits ∙ ap (unknown_bits sheet.rows) c.reads)

    promise_of : Promise sheet values
    promise_of = record {
      wide = all_wide sheet k.total k.passed values inside;
      one = one;
      alone = alone;
      rows = λ s c. (model_tells s c.meets).1.rows ∙ ap (row_values sheet.rows) c.reads;
      last = λ s c. model_last s c.meets ∙ ap (constraint sheet) c.reads;
    }

-- demand 3
pub demand_three : DemandThree
demand_three table sheet e values chosen = promise_of sheet (known table sheet e) values chosen
