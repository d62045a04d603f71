-- The law of loops that write: what is left of a circuit to be written. Assumes nothing.
use mathlib.Core.Path.{sym, subst}
use mathlib.Core.List.{List, [], ◌∷◌, ◌++◌, append-nil}
use lib.IntN.{ℤ}
use lib.Seq.{append_snoc}
use Rattle.circuit.specs.Literals.{Lit}
use Rattle.circuit.specs.Gates.{Gate}
use Rattle.circuit.specs.Circuits.{Circuit, ret, new, make, ◌>>=◌}
use Rattle.frame.specs.declared.Cursor.{Cursor}
use Rattle.frame.specs.declared.Made.{Made}
use Rattle.frame.specs.Written.{RoomFor, Makes}
use Rattle.frame.proofs.Writing.{makes_none, bind_first, bind_next, bind_makes}

-- of the circuit `all` there is `rest` left, for which there is room; f makes all's result of its result
module _ {A B : Type 0} where
  pub record Left (from : Cursor) (all : Circuit A) (before after : List ℤ) (to : Cursor) (rest : Circuit B) (f : B → A) : Type 0 where
    pub room : RoomFor to rest after
    pub whole : (end : List ℤ) (m : Made B) → Makes to rest after end m → Makes from all before end (record { value = f m.value; to = m.to })

  -- nothing is left but the result
  pub left_none : {from : Cursor} {all : Circuit A} {before after : List ℤ} {to : Cursor} {b : B} {f : B → A} → Left from all before after to (ret b) f
      → Makes from all before after (record { value = f b; to = to })
  left_none {after = after} {to = to} {b = b} p = p.whole after _ (makes_none to b after)

module _ {A : Type 0} where
  -- all is left
  pub left_all : {from : Cursor} (all : Circuit A) {l : List ℤ} → RoomFor from all l → Left from all l l from all (λ a. a)
  left_all all r = record { room = r; whole = λ end m w. w }

-- the first part p of what is left is written
module _ {A B C : Type 0} {from : Cursor} {all : Circuit A} {before l : List ℤ} {at : Cursor} {f : B → A} (p : Circuit C) (q : C → Circuit B) (h : Left from all before l at (p >>= q) f) where
  pub left_room : RoomFor at p l
  left_room = bind_first p q h.room

  pub left_step : {l' : List ℤ} {m : Made C} → Makes at p l l' m → Left from all before l' m.to (q m.value) f
  left_step w = record {
    room = bind_next p q h.room w;
    whole = λ end m' v. h.whole end m' (bind_makes p q h.room w v);
  }

-- the first gate of what is left
module _ {A B : Type 0} {from : Cursor} {all : Circuit A} {before l : List ℤ} {at : Cursor} {f : B → A} {g : Gate} {k : Lit → Circuit B} (h : Left from all before l at (new g k) f) where
  pub gate_room : RoomFor at (make g) l
  gate_room = left_room (make g) k h

  pub gate_step : {l' : List ℤ} {m : Made Lit} → Makes at (make g) l l' m → Left from all before l' m.to (k m.value) f
  gate_step w = left_step (make g) k h w

-- all's result is f of the result of c, changed by g
module _ {A B C : Type 0} {from : Cursor} {all : Circuit A} {before after : List ℤ} {to : Cursor} (c : Circuit C) (g : C → B) {f : B → A} where
  pub left_same : Left from all before after to (c >>= λ a. ret (g a)) f → Left from all before after to c (λ a. f (g a))
  left_same p = record {
    room = bind_first c (λ a. ret (g a)) p.room;
    whole = λ end m w. p.whole end _ (bind_makes c (λ a. ret (g a)) p.room w (makes_none m.to (g m.value) end));
  }

-- ---- literals are made, one after the other: those of `done` are, and what is left makes the others
pub record Filling (from : Cursor) (all : Circuit (List Lit)) (before after : List ℤ) (to : Cursor) (done : List Lit) (rest : Circuit (List Lit)) : Type 0 where
  pub left : Left from all before after to rest (λ ls. done ++ ls)

pub filling_all : {from : Cursor} (all : Circuit (List Lit)) {l : List ℤ} → RoomFor from all l → Filling from all l l from [] all
filling_all all r = record { left = left_all all r }

module _ {from : Cursor} {all : Circuit (List Lit)} {before l : List ℤ} {at : Cursor} {done : List Lit} where
  -- the last literals are a known list
  pub filling_end : {ls : List Lit} → Filling from all before l at done (ret ls) → Makes from all before l (record { value = done ++ ls; to = at })
  filling_end h = left_none h.left

  pub filling_none : Filling from all before l at done (ret []) → Makes from all before l (record { value = done; to = at })
  filling_none h = subst (λ (ls : List Lit). Makes from all before l (record { value = ls; to = at })) (append-nil done) (filling_end h)

  -- a turn: p is written, of whose result comes one literal more
  module _ {C : Type 0} (p : Circuit C) (a : C → Lit) (q : C → Circuit (List Lit)) (h : Filling from all before l at done (p >>= λ c. q c >>= λ ls. ret (a c ∷ ls))) where
    pub filling_room : RoomFor at p l
    filling_room = left_room p (λ c. q c >>= λ ls. ret (a c ∷ ls)) h.left

    pub filling_turn : {l' : List ℤ} {m : Made C} → Makes at p l l' m → Filling from all before l' m.to (done ++ a m.value ∷ []) (q m.value)
    filling_turn {l'} {m} w = record {
      left = subst
          (λ (f : List Lit → List Lit). Left from all before l' m.to (q m.value) f)
          (λ i ls. sym (append_snoc done (a m.value) ls) i)
          (left_same (q m.value) (λ ls. a m.value ∷ ls) (left_step p (λ c. q c >>= λ ls. ret (a c ∷ ls)) h.left w));
    }
