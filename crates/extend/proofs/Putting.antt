-- Bits put into a model one part after the other: parts joined, and what a loop keeps. Assumes nothing.
use mathlib.Core.Path.{◌≡◌, refl, sym, ap, ◌∙◌}
use mathlib.Core.Bool.{Bool, true, false, not, beq}
use mathlib.Core.List.{List, [], ◌∷◌, ◌++◌, map}
use Prim.Native.Nat.{ℕ, ◌+◌, ◌≤◌}
use native.Mathlib.Omega.{arith}
use lib.ListN.{length, length-append, length-map, set, length-set}
use mir.Val.{bool_byte}
use Rattle.whole.specs.Bits.{bit}
use Rattle.circuit.specs.Gates.{xor_of}
use Rattle.frame.specs.Frame.{over}
use Rattle.frame.proofs.Frames.{over_none, over_over, over-set}
use Rattle.extend.specs.declared.PartialModel.{PartialModel}
use Rattle.extend.specs.Bytes.{Room, Put}

-- a truth as a byte
byte_is_bit : (b : Bool) → bool_byte b ≡ bit b
byte_is_bit true = refl
byte_is_bit false = refl

-- a bit is stored
pub put_one : {m m' : PartialModel} {b : Bool} {v : ℕ} → Room (b ∷ []) m → v ≡ bool_byte b → m'.bytes.now ≡ set m.bytes.now m.at v → m'.at ≡ m.at + 1
    → m'.bytes.ghost_name ≡ m.bytes.ghost_name → Put (b ∷ []) m m'
put_one {m} {m'} {b} {v} r e s p n =
    record {
      bits = s ∙ ap (set m.bytes.now m.at) (e ∙ byte_is_bit b) ∙ sym (over_none (m.at + 1) (set m.bytes.now m.at (bit b))) ∙ over-set m.at (bit b) [] m.bytes.now (omega (arith, r.place));
      place = p;
      kept = ap length s ∙ length-set m.bytes.now m.at v;
      lent = n;
    }

bits-append : (us vs : List Bool) → map bit (us ++ vs) ≡ map bit us ++ map bit vs
bits-append [] vs = refl
bits-append (u ∷ us) vs = ap (λ (l : List ℕ). bit u ∷ l) (bits-append us vs)

pub put_none : (m : PartialModel) → Put [] m m
put_none m = record { bits = sym (over_none m.at m.bytes.now); place = omega arith; kept = refl; lent = refl }

-- one part after the other
module _ (us vs : List Bool) where
  pub room_first : {m : PartialModel} → Room (us ++ vs) m → Room us m
  room_first r = record { place = omega (arith, r.place, length-append us vs) }

  module _ {m m' : PartialModel} (r : Room (us ++ vs) m) (p : Put us m m') where
    pub room_next : Room vs m'
    room_next = record { place = omega (arith, r.place, length-append us vs, p.place, p.kept) }

    pub put_then : {m'' : PartialModel} → Put vs m' m'' → Put (us ++ vs) m m''
    put_then q =
        let h : m.at ≤ length m.bytes.now = omega (arith, r.place) in
        let e : m'.at ≡ m.at + length (map bit us) = p.place ∙ omega (arith, length-map us bit) in
        record {
          bits = q.bits ∙ ap (over m'.at (map bit vs)) p.bits ∙ over_over m.at m'.at (map bit us) (map bit vs) m.bytes.now h e ∙ ap (λ (l : List ℕ). over m.at l m.bytes.now) (sym (bits-append us vs));
          place = omega (arith, q.place, p.place, length-append us vs);
          kept = q.kept ∙ p.kept;
          lent = q.lent ∙ p.lent;
        }

-- two and three bits
pub put_two : {a b : Bool} {m m₁ m₂ : PartialModel} → Room (a ∷ b ∷ []) m → Put (a ∷ []) m m₁ → Put (b ∷ []) m₁ m₂ → Put (a ∷ b ∷ []) m m₂
put_two {a} {b} r p q = put_then (a ∷ []) (b ∷ []) r p q

pub put_three : {a b c : Bool} {m m₁ m₂ m₃ : PartialModel} → Room (a ∷ b ∷ c ∷ []) m → Put (a ∷ []) m m₁ → Put (b ∷ []) m₁ m₂ → Put (c ∷ []) m₂ m₃ → Put (a ∷ b ∷ c ∷ []) m m₃
put_three {a} {b} {c} r p q s = put_then (a ∷ []) (b ∷ c ∷ []) r p (put_two (room_next (a ∷ []) (b ∷ c ∷ []) r p) q s)

pub differ_is : (a b : Bool) → not (beq a b) ≡ xor_of a b
differ_is true true = refl
differ_is true false = refl
differ_is false true = refl
differ_is false false = refl

-- of the bits `all` there are `bs` left
pub record Left (before : PartialModel) (all : List Bool) (model : PartialModel) (bs : List Bool) : Type 0 where
  pub room : Room bs model
  pub whole : (end : PartialModel) → Put bs model end → Put all before end

pub left_all : {m : PartialModel} {all : List Bool} → Room all m → Left m all m all
left_all r = record { room = r; whole = λ end p. p }

module _ {m₀ : PartialModel} {all : List Bool} {m : PartialModel} {bs : List Bool} (p : Left m₀ all m bs) where
  pub left_room : (us vs : List Bool) → bs ≡ us ++ vs → Room us m
  left_room us vs e = room_first us vs (rw e at p.room)

  pub left_step : (us vs : List Bool) {m' : PartialModel} → bs ≡ us ++ vs → Put us m m' → Left m₀ all m' vs
  left_step us vs {m'} e d =
      let q = rw e at p in
      record {
        room = room_next us vs q.room d;
        whole = λ end w. q.whole end (put_then us vs q.room d w);
      }

  pub left_none : bs ≡ [] → Put all m₀ m
  left_none e =
      let q = rw e at p in
      q.whole m (put_none m)
