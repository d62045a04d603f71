-- The rows of a sheet extended one after the other: what the loop knows, a row more, and the end. Assumes nothing.
use mathlib.Core.Path.{◌≡◌, refl, sym, ap, ◌∙◌}
use mathlib.Core.Bool.{Bool, true, false}
use mathlib.Core.List.{List, [], ◌∷◌, ◌++◌, map}
use Prim.Native.Nat.{ℕ, ◌+◌, ◌≤◌, ◌<◌}
use native.Mathlib.Omega.{arith}
use lib.IntN.{ℤ, pos}
use lib.ListN.{length, get_or, take, drop, length-map, get_or-map}
use lib.Seq.{get_or-take, drop-drop, length-take-le, take_at, take-take}
use Rattle.std.proofs.lemmas.List.{length-take, take-map}
use Rattle.whole.specs.Bits.{bit}
use Rattle.sheet.specs.declared.Fields.{Fields}
use Rattle.sheet.specs.declared.Record.{Record}
use Rattle.sheet.specs.declared.References.{References}
use Rattle.sheet.specs.Rows.{uses, is_unknown}
use Rattle.sheet.specs.Values.{Value, boolean, numerator, row_val, values_from, row_values, Chosen}
use Rattle.sheet.specs.Acceptance.{Sheet, missing, record_at}
use Rattle.sheet.proofs.Widths.{AllHold, all_hold_snoc, row_fits}
use Rattle.promise.proofs.Choices.{AllIn, within_all, new_values, values_new}
use Rattle.promise.proofs.Evaluated.{rows_many}
use Rattle.unknown.proofs.Taken.{bit_most, next_value}
use Rattle.table.specs.Accepted.{Accepted}
use Rattle.table.proofs.Rowwise.{as_many, Row}
use Rattle.trace.specs.Traces.{trace_of, traces_from, traces}
use Rattle.extend.specs.declared.PartialModel.{PartialModel}
use Rattle.extend.specs.Bytes.{Room, Put}
use Rattle.extend.proofs.Putting.{Left, left_all, left_room, left_step, left_none}
use Rattle.number_extender.specs.declared.Operand.{Operand}
use Rattle.row_extender.specs.Ready.{Ready, trace_over}
use Rattle.extender.proofs.Standing.{Stands, Given, row_ready, row_trace}

-- r rows are extended, and u values are taken
pub record Walking (sheet : Sheet) (values : List ℤ) (before model : PartialModel) (u r : ℕ) : Type 0 where
  pub taken : u ≤ r
  pub earlier : List Value
  pub hold : AllHold (take r sheet.records) earlier
  pub inside : AllIn (drop r sheet.rows) (drop u values)
  pub same : values_from earlier (drop r sheet.rows) (drop u values) ≡ row_values sheet.rows values
  pub left : Left before (traces sheet.records sheet.rows values) model (traces_from sheet.records earlier (drop r sheet.rows) (drop u values))

-- row x as row r refers to it, of the r rows before alone
pub record Referred (sheet : Sheet) (results : List ℤ) (r x : ℕ) (o : Operand) : Type 0 where
  pub is_record : o.record ≡ record_at (take r sheet.records) x
  pub is_numerator : o.numerator ≡ get_or (take r results) x (pos 0)

-- where the results begin with the rows' numerators there is one for each record
pub enough : {sheet : Sheet} (results values : List ℤ) → Accepted sheet → take (length sheet.rows) results ≡ map numerator (row_values sheet.rows values) → length sheet.records ≤ length results
enough {sheet} results values a e =
    omega (arith, as_many a, sym (length-take (length sheet.rows) results) ∙ ap length e ∙ length-map (row_values sheet.rows values) numerator ∙ rows_many sheet.rows values)

-- truth is put
module _ (sheet : Sheet) (values : List ℤ) {before : PartialModel} (room : Room (traces sheet.records sheet.rows values) before) where
  pub truth_room : Room (true ∷ []) before
  unfolding traces
  truth_room = left_room (left_all room) (true ∷ []) (traces_from sheet.records [] sheet.rows values) refl

  pub walking_none : {model : PartialModel} → Chosen sheet.rows values → Put (true ∷ []) before model → Walking sheet values before model 0 0
  unfolding row_values traces
  walking_none c p = record {
    taken = omega arith;
    earlier = [];
    hold = tt;
    inside = within_all sheet.rows values c.within;
    same = refl;
    left = left_step (left_all room) (true ∷ []) (traces_from sheet.records [] sheet.rows values) refl p;
  }

-- as many values as records
hold_many : (rs : List Record) (vs : List Value) → AllHold rs vs → length vs ≡ length rs
hold_many [] [] h = refl
hold_many [] (v ∷ vs) h = absurd h
hold_many (r ∷ rs) [] h = absurd h
hold_many (r ∷ rs) (v ∷ vs) h = omega (arith, hold_many rs vs h.1)

module _ {sheet : Sheet} (a : Accepted sheet) {values : List ℤ} {before model : PartialModel} {u r : ℕ} (p : Walking sheet values before model u r) where
  -- all rows are extended
  pub walking_end : drop r sheet.rows ≡ [] → Put (traces sheet.records sheet.rows values) before model
  walking_end e = left_none p.left (ap (λ (fs : List Fields). traces_from sheet.records p.earlier fs (drop u values)) e)

  -- ---- a row is left
  module _ {f : Fields} (here : Row sheet r f) (h : r < length sheet.rows) where
    abbrev value : ℤ
    value = get_or (drop u values) 0 (pos 0)

    long : length (take r sheet.records) ≡ r
    long = length-take-le r sheet.records (omega (arith, as_many a))

    many : length p.earlier ≡ r
    many = hold_many (take r sheet.records) p.earlier p.hold ∙ long

    own : (x : ℕ) → x < length (take r sheet.records) → record_at (take r sheet.records) x ≡ record_at sheet.records x
    own x k = get_or-take r sheet.records x missing (omega (arith, long, k))

    module _ (results : List ℤ) (computed : take (length sheet.rows) results ≡ map numerator (row_values sheet.rows values)) where
      -- the results of the rows before
      numbers : take r results ≡ map numerator p.earlier
      numbers =
          let new = new_values p.earlier (drop r sheet.rows) (drop u values) in
          sym (take-take r (length sheet.rows) results (omega arith)) ∙ ap (take r) (computed ∙ ap (map numerator) (sym p.same ∙ values_new (drop r sheet.rows) p.earlier (drop u values)))
          ∙ take-map numerator r (p.earlier ++ new) ∙ ap (map numerator) (take_at p.earlier new r many)

      -- what is referred to stands for its row, and for false if that is not earlier
      pub walking_stands : (x : ℕ) {o : Operand} → Referred sheet results r x o → Stands (take r sheet.records) p.earlier x o
      walking_stands x o = record {
        is_record = o.is_record;
        is_numerator = o.is_numerator ∙ ap (λ (l : List ℤ). get_or l x (pos 0)) numbers ∙ get_or-map numerator p.earlier x (boolean false);
      }

    module _ (of : References Operand) (at_x : Given (take r sheet.records) p.earlier p.hold f.x of.x) (at_y : Given (take r sheet.records) p.earlier p.hold f.y of.y) (at_z : Given (take r sheet.records) p.earlier p.hold f.z of.z) where
      pub walking_ready : Ready f.kind of
      walking_ready = row_ready (take r sheet.records) p.earlier p.hold of here.passes at_x at_y at_z

      is_trace : trace_over f of value ≡ trace_of sheet.records p.earlier f value
      is_trace = row_trace (take r sheet.records) p.earlier p.hold of sheet.records here.passes (own f.x) (own f.y) (own f.z) at_x at_y at_z value

      abbrev after : List Bool
      after = traces_from sheet.records (p.earlier ++ row_val p.earlier f value ∷ []) (drop (r + 1) sheet.rows) (drop (bit (is_unknown (uses f.kind))) (drop u values))

      parts : traces_from sheet.records p.earlier (drop r sheet.rows) (drop u values) ≡ trace_over f of value ++ after
      parts = rw (is_trace, here.ahead)

      pub walking_room : Room (trace_over f of (get_or values u (pos 0))) model
      walking_room = rw (← next_value values u) (left_room p.left (trace_over f of value) after parts)

      pub walking_next : {model' : PartialModel} {next : ℕ} → next ≡ u + bit (is_unknown (uses f.kind)) → Put (trace_over f of (get_or values u (pos 0))) model model'
          → Walking sheet values before model' next (r + 1)
      walking_next {next = next} t put =
          let v = row_val p.earlier f value in
          let inside = rw here.ahead at p.inside in
          let same = rw here.ahead at p.same in
          let d : drop next values ≡ drop (bit (is_unknown (uses f.kind))) (drop u values) = ap (λ (n : ℕ). drop n values) t ∙ sym (drop-drop (bit (is_unknown (uses f.kind))) u values) in
          record {
            taken = omega (arith, p.taken, t, bit_most (is_unknown (uses f.kind)));
            earlier = p.earlier ++ v ∷ [];
            hold = rw here.front
                (all_hold_snoc (take r sheet.records) p.earlier (record_at sheet.records r) v p.hold
                (row_fits (take r sheet.records) p.earlier p.hold here.at f (record_at sheet.records r) here.counts here.passes value inside.0));
            inside = rw d inside.1;
            same = rw d same;
            left = rw d (left_step p.left (trace_over f of value) after parts (rw (← next_value values u) at put));
          }
