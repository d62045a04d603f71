-- What extending answers and leaves in the model, from what choosing answers. Assumes nothing.
use Rattle.std.specs.Prelude.{Ok, Err}
use mathlib.Core.Path.{◌≡◌, refl, sym, ap, ◌∙◌}
use mathlib.Core.Bool.{Bool, true, false}
use mathlib.Core.List.{List, ◌++◌, map}
use Prim.Native.Nat.{ℕ, ◌-◌, ◌≤◌, ◌<◌}
use native.Mathlib.Omega.{arith}
use borrow.Author.Tests.{lt-ltb, le-ltb}
use lib.Dec.{eqb}
use lib.IntN.{ℤ, pos}
use lib.ListN.{length, get_or, take, drop, length-map, get_or-append, get_or-map}
use lib.Seq.{take_at}
use mir.Syntax.{w64}
use mir.Val.{of_z}
use Rattle.whole.specs.Bits.{bit}
use Rattle.sheet.specs.declared.Reason.TheVariants.{ShortBuffer}
use Rattle.sheet.specs.declared.Refusal.{Refusal}
use Rattle.sheet.specs.Values.{boolean, numerator, value_at, row_values, Chosen}
use Rattle.sheet.specs.Acceptance.{refused, Sheet, accept}
use Rattle.sheet.specs.Steps.{extension}
use Rattle.sheet.specs.Calls.{choosing, extending, model_of, constraint}
use Rattle.sheet.specs.Relations.{Extends}
use Rattle.sheet.proofs.Called.{choosing_tells}
use Rattle.promise.proofs.Promise.{demand_three}
use Rattle.promise.proofs.Evaluated.{rows_many, last_numerator}
use Rattle.frame.specs.Frame.{front, over}
use Rattle.table.specs.Accepted.{Accepted}
use Rattle.table.proofs.Rowwise.{some_rows}
use Rattle.table.proofs.Buffers.{left_refused, left_accepted}
use Rattle.trace.specs.Traces.{traces}
use Rattle.trace.proofs.Table.{extension_traced}

is_one : (b : Bool) → eqb (of_z w64 (pos (bit b))) 1 ≡ b
is_one true = refl
is_one false = refl

module _ (table : List ℕ) (values : List ℤ) where
  pub not_chosen : {refusal : Refusal} {model : List ℕ} → Err refusal ≡ choosing table values → Extends table values model (Err refusal) model
  unfolding extending
  not_chosen {refusal} {model} e = record { says = rw (← e); model = left_refused (model_of values) model {refusal = refusal} (rw (← e)) }

  module _ {sheet : Sheet} (e : Ok sheet ≡ choosing table values) where
    accepts : accept table ≡ Ok sheet
    accepts = (choosing_tells table values (sym e)).0

    pub accepted : Accepted sheet
    accepted = record { table = table; is = accepts }

    pub chosen : Chosen sheet.rows values
    chosen = (choosing_tells table values (sym e)).1

    pub some : 1 ≤ length sheet.rows
    some = some_rows accepted

    pub too_short : {model : List ℕ} → length model < sheet.counts.variables → Extends table values model (refused ShortBuffer sheet.counts.variables) model
    unfolding extending
    too_short {model} h =
        let o = lt-ltb (length model) sheet.counts.variables h in
        record { says = rw (← e, o); model = left_refused (model_of values) model {refusal = record { reason = ShortBuffer; place = sheet.counts.variables }} (rw (← e, o)) }

    -- what is put is the paper's assignment
    traces_are : traces sheet.records sheet.rows values ≡ extension sheet.rows values
    traces_are = sym (extension_traced table sheet accepts values chosen)

    pub as_many : length (traces sheet.records sheet.rows values) ≡ sheet.counts.variables
    as_many = ap length traces_are ∙ (demand_three table sheet accepts values chosen).one.sized

    long : length (map numerator (row_values sheet.rows values)) ≡ length sheet.rows
    long = length-map (row_values sheet.rows values) numerator ∙ rows_many sheet.rows values

    module _ {results : List ℤ} (l : List ℤ) (f : results ≡ front (map numerator (row_values sheet.rows values)) l) where
      as_computed : results ≡ map numerator (row_values sheet.rows values) ++ drop (length (map numerator (row_values sheet.rows values))) l
      unfolding front
      as_computed = f

      pub computed : take (length sheet.rows) results ≡ map numerator (row_values sheet.rows values)
      computed = ap (take (length sheet.rows)) as_computed ∙ take_at (map numerator (row_values sheet.rows values)) _ (length sheet.rows) long

      -- the last numerator is the constraint
      last : eqb (of_z w64 (get_or results (length sheet.rows - 1) (pos 0))) 1 ≡ constraint sheet values
      last =
          let vs = row_values sheet.rows values in
          let i = length sheet.rows - 1 in
          let at_last : get_or results i (pos 0) ≡ numerator (value_at vs i)
          = ap (λ (r : List ℤ). get_or r i (pos 0)) as_computed ∙ get_or-append (map numerator vs) _ (pos 0) i (omega (arith, long, some)) ∙ get_or-map numerator vs i (boolean false) in
          ap (λ (z : ℤ). eqb (of_z w64 z) 1) (at_last ∙ last_numerator table sheet accepts values chosen) ∙ is_one (constraint sheet values)

      pub extended : {model model₁ : List ℕ} {answer : Bool} → sheet.counts.variables ≤ length model → model₁ ≡ over 0 (map bit (traces sheet.records sheet.rows values)) model
          → answer ≡ eqb (of_z w64 (get_or results (length sheet.rows - 1) (pos 0))) 1 → Extends table values model (Ok answer) model₁
      unfolding extending over front
      extended {model} h g b =
          let o = le-ltb (length model) sheet.counts.variables h in
          record {
            says = ap Ok (b ∙ last) ∙ rw (← e, o);
            model = g ∙ ap (λ bs. front (map bit bs) model) traces_are ∙ left_accepted (model_of values) model {a = sheet} (rw (← e, o));
          }

pub ruleset extends = (not_chosen, accepted, some, too_short, as_many, computed, extended)
