-- Each row's part of the slots, by its record's first slot and number of slots, is what the row's own steps write. Assumes nothing.
use Rattle.std.specs.Prelude.{Ok}
use mathlib.Core.Path.{◌≡◌, refl, sym, ◌∙◌, ap, subst}
use mathlib.Core.List.{List, [], ◌∷◌, ◌++◌, append_assoc}
use Prim.Native.Nat.{ℕ, zero, suc, ◌+◌, ◌≤◌, ◌<◌}
use native.Mathlib.Omega.{arith}
use lib.IntN.{ℤ}
use lib.ListN.{length, length-append}
use lib.Seq.{take_at, drop_at, get_or-append_seam}
use Rattle.circuit.specs.declared.Counts.{Counts}
use Rattle.circuit.specs.Literals.{slots_of, Clause}
use Rattle.circuit.specs.Gates.{Gate, fixed}
use Rattle.circuit.specs.Circuits.{gates, out, clauses_from}
use Rattle.circuit.specs.Counting.{the_first}
use Rattle.circuit.proofs.Costs.{State}
use Rattle.circuit.proofs.Lengths.{slots_of_append, clauses_from-append, gates_bind, out_bind, cost_sound}
use Rattle.sheet.specs.declared.Fields.{Fields}
use Rattle.sheet.specs.declared.Record.{Record}
use Rattle.sheet.specs.Acceptance.{missing, record_at, Sheet, accept}
use Rattle.sheet.specs.Steps.{Cell, row_steps, steps_from, steps, cells, clauses_but_last, last_clause, clauses, slots_for}
use Rattle.sheet.specs.Calls.{part}
use Rattle.sheet.proofs.Accepted.{Passed, Behind, passed_behind, accepted_tells}
use Rattle.sheet.proofs.Counted.{row_cost}
use Rattle.sheet.proofs.Total.{whole_table}
use Rattle.promise.specs.Promise.{row_slots, PartsAreRows}
use Rattle.promise.proofs.Long.{some_made}

-- the gates of rows, then of more rows
module _ (rest : List Fields) where
  gates_rows : (before : List Fields) (cs : List Cell) (n : ℕ)
      → gates n (steps_from cs (before ++ rest)) ≡ gates n (steps_from cs before) ++ gates (n + length (gates n (steps_from cs before))) (steps_from (out n (steps_from cs before)) rest)
  gates_rows [] cs n = ap (λ (k : ℕ). gates k (steps_from cs rest)) (omega arith)
  gates_rows (f ∷ before) cs n =
      let row = row_steps cs f in
      let k = n + length (gates n row) in
      let ds = cs ++ out n row ∷ [] in
      let us = gates n row in
      let vs = gates k (steps_from ds before) in
      gates_bind n row (λ c. steps_from (cs ++ c ∷ []) (before ++ rest))
      ∙ ap (λ (l : List Gate). us ++ l) (gates_rows before ds k)
      ∙ sym (append_assoc us vs (gates (k + length vs) (steps_from (out k (steps_from ds before)) rest)))
      ∙ rw (gates_bind n row (λ c. steps_from (cs ++ c ∷ []) before), out_bind n row (λ c. steps_from (cs ++ c ∷ []) before), length-append us vs)
      (ap (λ (j : ℕ). (us ++ vs) ++ gates j (steps_from (out k (steps_from ds before)) rest)) (omega arith))

-- the slots of gates, then of more gates
slots_then : (n : ℕ) (us vs : List Gate) → slots_of (clauses_from n (us ++ vs)) ≡ slots_of (clauses_from n us) ++ slots_of (clauses_from (n + length us) vs)
slots_then n us vs = ap slots_of (clauses_from-append n us vs) ∙ slots_of_append (clauses_from n us) (clauses_from (n + length us) vs)

-- the slots of three runs of gates and a last clause
slots_three : (gs us vs ws : List Gate) (c : Clause) → gs ≡ us ++ (vs ++ ws)
    → slots_of (clauses_from 0 gs ++ c ∷ [])
    ≡ slots_of (clauses_from 0 us) ++ (slots_of (clauses_from (length us) vs) ++ (slots_of (clauses_from (length us + length vs) ws) ++ slots_of (c ∷ [])))
slots_three gs us vs ws c e =
    let a = slots_of (clauses_from 0 us) in
    let b = slots_of (clauses_from (length us) vs) in
    let d = slots_of (clauses_from (length us + length vs) ws) in
    let first : slots_of (clauses_from 0 gs) ≡ a ++ (b ++ d)
    = ap (λ (l : List Gate). slots_of (clauses_from 0 l)) e ∙ slots_then 0 us (vs ++ ws)
    ∙ ap (λ (k : ℕ). a ++ slots_of (clauses_from k (vs ++ ws))) (omega arith) ∙ ap (λ (l : List ℤ). a ++ l) (slots_then (length us) vs ws) in
    slots_of_append (clauses_from 0 gs) (c ∷ []) ∙ rw first (append_assoc a (b ++ d) (slots_of (c ∷ [])) ∙ ap (λ (l : List ℤ). a ++ l) (append_assoc b d (slots_of (c ∷ []))))

module _ (before : List Fields) (f : Fields) (behind : List Fields) where
  made : ℕ
  made = length (gates 0 (steps before))

  later : List Gate
  later = gates (made + length (gates made (row_steps (cells before) f))) (steps_from (cells before ++ out made (row_steps (cells before) f) ∷ []) behind)

  split_gates : gates 0 (steps (before ++ f ∷ behind)) ≡ gates 0 (steps before) ++ (gates made (row_steps (cells before) f) ++ later)
  unfolding made later steps cells
  split_gates =
      ap (λ (l : List Gate). fixed ∷ l) (gates_rows (f ∷ behind) before [] 1
      ∙ ap (λ (l : List Gate). gates 1 (steps_from [] before) ++ l) (ap (λ (k : ℕ). gates k (steps_from (out 1 (steps_from [] before)) (f ∷ behind))) (omega arith)
      ∙ gates_bind made (row_steps (cells before) f) (λ c. steps_from (cells before ++ c ∷ []) behind)))

  -- the slots of a table: those of the rows before, those of the row, and what follows
  split_slots : slots_for (before ++ f ∷ behind)
      ≡ slots_of (clauses_from 0 (gates 0 (steps before))) ++ (row_slots before f ++ (slots_of (clauses_from (made + length (gates made (row_steps (cells before) f))) later) ++ slots_of (last_clause (before ++ f ∷ behind) ∷ [])))
  unfolding made slots_for clauses clauses_but_last
  split_slots = slots_three (gates 0 (steps (before ++ f ∷ behind))) (gates 0 (steps before)) (gates made (row_steps (cells before) f)) later (last_clause (before ++ f ∷ behind)) split_gates

-- the row's record says where its slots stand, and how many there are
module _ (before : List Fields) (f : Fields) (behind : List Fields) (records : List Record) (b : Behind records before f) where
  sheet_before : Sheet
  sheet_before = record { rows = before; records = b.earlier; counts = b.so }

  first_is : length (slots_of (clauses_from 0 (gates 0 (steps before)))) ≡ b.own.first
  unfolding sheet_before
  first_is = (whole_table sheet_before b.so b.passed).slot ∙ sym (ap (λ (r : Record). r.first) b.passes.is_record)

  slots_are : length (row_slots before f) ≡ b.own.slots
  unfolding sheet_before
  slots_are =
      let w = whole_table sheet_before b.so b.passed in
      let start : State = record { place = length (gates 0 (steps before)); asked = 0; clauses = 0; slots = 0 } in
      let grown = (cost_sound (row_cost start (some_made before) b.earlier (cells before) w.fit b.so.slots f b.own b.counts b.passes)).1.0 in
      let record-slots = ap (λ (r : Record). r.slots) b.passes.is_record in
      let count-slots = ap (λ (k : Counts). k.slots) b.passes.is_counts in
      omega (arith, grown.slots)

  record_is : record_at records (length before) ≡ b.own
  record_is = rw (b.front, ← b.place) (get_or-append_seam b.earlier b.own b.rest missing)

  part_is : part (Ok (record_at records (length before))) (slots_for (before ++ f ∷ behind)) ≡ row_slots before f
  unfolding part
  part_is =
      let first = slots_of (clauses_from 0 (gates 0 (steps before))) in
      let row = row_slots before f in
      rw (record_is, split_slots before f behind, drop_at first (row ++ _) b.own.first first_is) (take_at row _ b.own.slots slots_are)

  inside : b.own.first + b.own.slots ≤ length (slots_for (before ++ f ∷ behind))
  inside = within (slots_of (clauses_from 0 (gates 0 (steps before)))) (row_slots before f) _ (split_slots before f behind) first_is slots_are
    where
      within : (us vs ws : List ℤ) {all : List ℤ} {m n : ℕ} → all ≡ us ++ (vs ++ ws) → length us ≡ m → length vs ≡ n → m + n ≤ length all
      within us vs ws e f g = omega (arith, ap length e, length-append us (vs ++ ws), length-append vs ws)

pub parts_are_rows : PartsAreRows
parts_are_rows table sheet e before f behind same =
    let a = accepted_tells table sheet e in
    let b = passed_behind before f behind sheet.records a.total (subst (λ (rows : List Fields). Passed [] the_first rows sheet.records a.total) same a.passed) in
    rw same (part_is before f behind sheet.records b)

-- a list where place i stands
module _ {A : Type 0} where
  pub record At (l : List A) (i : ℕ) : Type 0 where
    pub before : List A
    pub here : A
    pub behind : List A
    pub split : l ≡ before ++ here ∷ behind
    pub place : length before ≡ i

  at : (l : List A) (i : ℕ) → i < length l → At l i
  at [] i h = absurd (omega arith)
  at (x ∷ l) zero h = record { before = []; here = x; behind = l; split = refl; place = refl }
  at (x ∷ l) (suc i) h =
      let a = at l i (omega arith) in
      record { before = x ∷ a.before; here = a.here; behind = a.behind; split = ap (λ (m : List A). x ∷ m) a.split; place = ap suc a.place }

-- a row's part ends where the slots end, or before
pub part_inside : (table : List ℕ) (sheet : Sheet) → accept table ≡ Ok sheet → (i : ℕ) → i < length sheet.rows
    → (record_at sheet.records i).first + (record_at sheet.records i).slots ≤ length (slots_for sheet.rows)
part_inside table sheet e i h = by (at sheet.rows i h)
  where
    by : At sheet.rows i → (record_at sheet.records i).first + (record_at sheet.records i).slots ≤ length (slots_for sheet.rows)
    by s =
        let a = accepted_tells table sheet e in
        let b = passed_behind s.before s.here s.behind sheet.records a.total (subst (λ (rows : List Fields). Passed [] the_first rows sheet.records a.total) s.split a.passed) in
        let own = ap (record_at sheet.records) (sym s.place) ∙ record_is s.before s.here s.behind sheet.records b in
        omega (arith, ap (λ (r : Record). r.first) own, ap (λ (r : Record). r.slots) own, ap (λ (l : List Fields). length (slots_for l)) s.split, inside s.before s.here s.behind sheet.records b)
