-- Gates and circuits written one after the other, in terms of where writing goes on. Assumes nothing.
use mathlib.Core.Path.{◌≡◌, refl, sym, ap, subst, ◌∙◌}
use mathlib.Core.List.{List, [], ◌∷◌, ◌++◌, append-nil}
use Prim.Native.Nat.{ℕ, ◌+◌, ◌≤◌, ◌<◌}
use native.Mathlib.Nat.{add-zero}
use native.Mathlib.Omega.{arith}
use lib.IntN.{ℤ}
use lib.ListN.{length, length-append}
use Rattle.circuit.specs.Literals.{Lit, plus}
use Rattle.circuit.specs.Gates.{Gate, gate_clauses}
use Rattle.circuit.specs.Circuits.{Circuit, ret, make, ◌>>=◌, gates, out, clauses_from}
use Rattle.circuit.proofs.Costs.{gate_counts}
use Rattle.circuit.proofs.Lengths.{gates_bind, out_bind, slots_of_append, clauses_from-append, gate_lengths}
use Rattle.frame.specs.declared.Cursor.{Cursor}
use Rattle.frame.specs.declared.Made.{Made}
use Rattle.frame.specs.Frame.{over}
use Rattle.frame.specs.Written.{written, Room, Wrote, RoomFor, Makes}
use Rattle.frame.proofs.Frames.{over_over, over_none, length_over}

-- ---- what gates write
written-append : (n : ℕ) (us vs : List Gate) → written n (us ++ vs) ≡ written n us ++ written (n + length us) vs
unfolding written
written-append n us vs = rw (clauses_from-append n us vs) (slots_of_append (clauses_from n us) (clauses_from (n + length us) vs))

length_written : (n : ℕ) (us vs : List Gate) → length (written n (us ++ vs)) ≡ length (written n us) + length (written (n + length us) vs)
length_written n us vs = ap length (written-append n us vs) ∙ length-append (written n us) (written (n + length us) vs)

pub written_none : (n : ℕ) → written n [] ≡ []
unfolding written
written_none n = refl

pub written_gate : (n : ℕ) (g : Gate) → length (written n (g ∷ [])) ≡ (gate_counts g).slots
unfolding written
written_gate n g = ap length (slots_of_append (gate_clauses n g) []) ∙ rw append-nil (gate_lengths n g).1

-- ---- one part of the gates after the other
-- there is room for the first part
pub room_first : {from : Cursor} (us vs : List Gate) {l : List ℤ} → Room from (us ++ vs) l → Room from us l
room_first {from} us vs r = record { place = omega (arith, r.place, length_written from.next us vs); number = omega (arith, r.number, length-append us vs) }

-- the slots stay as many
pub wrote_long : {from : Cursor} {gs : List Gate} {l l' : List ℤ} {to : Cursor} → Room from gs l → Wrote from gs l l' to → length l' ≡ length l
wrote_long {from} {gs} {l} r w = rw w.slots (length_over from.at (written from.next gs) l r.place)

-- where the first part is written, there is room for the second
pub room_next : {from : Cursor} (us vs : List Gate) {l l' : List ℤ} {to : Cursor} → Room from (us ++ vs) l → Wrote from us l l' to → Room to vs l'
room_next {from} us vs r w =
    let e = wrote_long (room_first us vs r) w in
    record {
      place = rw w.number (omega (arith, r.place, w.place, e, length_written from.next us vs));
      number = omega (arith, r.number, w.number, length-append us vs);
    }

-- both are written
pub wrote_then : {from : Cursor} (us vs : List Gate) {before l after : List ℤ} {to to' : Cursor} → from.at ≤ length before
    → Wrote from us before l to → Wrote to vs l after to' → Wrote from (us ++ vs) before after to'
wrote_then {from} us vs {before} {to = to} h p q =
    let second = written (from.next + length us) vs in
    record {
      slots = q.slots ∙ rw (p.number, p.slots, written-append from.next us vs) (over_over from.at to.at (written from.next us) second before h p.place);
      place = omega (arith, p.place, rw p.number at q.place, length_written from.next us vs);
      number = omega (arith, p.number, q.number, length-append us vs);
    }

-- gates that write nothing, and no gates
pub wrote_nothing : {from : Cursor} (gs : List Gate) (l : List ℤ) {to : Cursor} → written from.next gs ≡ [] → to.at ≡ from.at → to.next ≡ from.next + length gs → Wrote from gs l l to
wrote_nothing {from} gs l e f g = record { slots = rw e (sym (over_none from.at l)); place = rw e (f ∙ sym (add-zero from.at)); number = g }

pub wrote_none : (from : Cursor) (l : List ℤ) → Wrote from [] l l from
wrote_none from l = wrote_nothing [] l (written_none from.next) refl (sym (add-zero from.next))

-- ---- circuits
module _ {A : Type 0} where
  -- a circuit that makes nothing
  pub makes_none : (from : Cursor) (a : A) (l : List ℤ) → Makes from (ret a) l l (record { value = a; to = from })
  makes_none from a l = record { wrote = wrote_none from l; value = refl }

-- one gate, whose slots are vs
pub makes_gate : {from : Cursor} (g : Gate) {vs l l' : List ℤ} {m : Made Lit} → l' ≡ over from.at vs l → vs ≡ written from.next (g ∷ []) → m.value ≡ plus from.next
    → m.to.at ≡ from.at + length vs → m.to.next ≡ from.next + 1 → Makes from (make g) l l' m
makes_gate {from} g {l = l} f e v a n = record {
  wrote = record { slots = f ∙ ap (λ (us : List ℤ). over from.at us l) e; place = a ∙ ap (λ (us : List ℤ). from.at + length us) e; number = n };
  value = v;
}

pub room_gate : {from : Cursor} (g : Gate) {l : List ℤ} → RoomFor from (make g) l → (from.at + (gate_counts g).slots ≤ length l) × (from.next + 1 < 2147483648)
room_gate {from} g r = (rw (written_gate from.next g) at r.place, r.number)

-- a circuit is written, then the one that its result gives
module _ {A B : Type 0} {from : Cursor} {l : List ℤ} (p : Circuit A) (q : A → Circuit B) (r : RoomFor from (p >>= q) l) where
  abbrev first : List Gate
  first = gates from.next p

  abbrev second : List Gate
  second = gates (from.next + length first) (q (out from.next p))

  both : Room from (first ++ second) l
  both = rw (gates_bind from.next p q) at r

  -- there is room for the first
  pub bind_first : RoomFor from p l
  bind_first = room_first first second both

  module _ {l' : List ℤ} {m : Made A} (w : Makes from p l l' m) where
    second_is : second ≡ gates m.to.next (q m.value)
    second_is = ap (λ (n : ℕ). gates n (q (out from.next p))) (sym w.wrote.number) ∙ ap (λ (a : A). gates m.to.next (q a)) (sym w.value)

    -- and then for the second
    pub bind_next : RoomFor m.to (q m.value) l'
    bind_next = subst (λ (gs : List Gate). Room m.to gs l') second_is (room_next first second both w.wrote)

    -- both are written
    pub bind_makes : {l'' : List ℤ} {m' : Made B} → Makes m.to (q m.value) l' l'' m' → Makes from (p >>= q) l l'' m'
    bind_makes {l''} {m'} v = record {
      wrote = rw (gates_bind from.next p q) (wrote_then first second (omega (arith, r.place)) w.wrote (subst (λ (gs : List Gate). Wrote m.to gs l' l'' m'.to) (sym second_is) v.wrote));
      value =
          v.value
          ∙ ap (λ (a : A). out m.to.next (q a)) w.value
          ∙ ap (λ (n : ℕ). out n (q (out from.next p))) w.wrote.number
          ∙ sym (out_bind from.next p q);
    }
