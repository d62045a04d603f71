-- Two numbers are brought to one denominator, then the operation on them is written, and answered as a row. Assumes nothing.
use mathlib.Core.Path.{◌≡◌, ap, ◌∙◌}
use mathlib.Core.List.{List}
use Prim.Native.Nat.{ℕ, ◌*◌, ◌/◌, ◌≤◌, ◌<◌, max}
use native.Mathlib.Nat.{le_trans, mul-le-mul, div-le_self}
use native.Mathlib.Omega.{arith}
use lib.IntN.{ℤ}
use lib.ListN.{length}
use Rattle.whole.specs.Divisors.{gcd, lcm}
use Rattle.circuit.specs.Literals.{Lit}
use Rattle.circuit.specs.Circuits.{Circuit, ret, ◌>>=◌}
use Rattle.circuit.specs.Numbers.{expansion}
use Rattle.circuit.proofs.Lengths.{bind_assoc}
use Rattle.sheet.specs.Acceptance.{larger}
use Rattle.sheet.specs.Steps.{Cell, least, brought}
use Rattle.frame.specs.declared.Cursor.{Cursor}
use Rattle.frame.specs.declared.Made.{Made}
use Rattle.frame.specs.Written.{RoomFor, Makes}
use Rattle.frame.proofs.Writing.{makes_none, bind_first, bind_next, bind_makes}
use Rattle.numbers.specs.Bounds.{Denominator}
use Rattle.literal_map.specs.declared.Operand.{Operand}
use Rattle.literal_map.specs.Cells.{cell_of}
use Rattle.literal_map.specs.Rows.{RowMade}
use Rattle.number_row.specs.declared.Pair.{Pair}
use Rattle.number_row.specs.Over.{IsOver}
use Rattle.number_row.specs.Bringing.{both}
use Rattle.number_row.proofs.Widths.{expansion_width}

-- a factor is below the limit of one
least_most : (a b : ℕ) → Denominator a → Denominator b → lcm a b ≤ 4096 * 4096
unfolding lcm
least_most a b p q = mul-le-mul (le_trans (div-le_self a (gcd a b)) p.most) q.most

pub factor_below : (common a b d : ℕ) → common ≡ lcm a b → Denominator a → Denominator b → common / d < 2147483648
factor_below common a b d e p q = omega (arith, e, least_most a b p q, div-le_self common d)

abbrev paired : List Lit → List Lit → Pair
paired xs ys = record { x = xs; y = ys }

-- x is expanded, then y, over the least common multiple
module _ (a b : Operand) (common : ℕ) (is-least : common ≡ least (cell_of a) (cell_of b)) where
  abbrev expand_a : Circuit (List Lit)
  expand_a = expansion (common / a.record.denominator) a.number

  abbrev expand_b : Circuit (List Lit)
  expand_b = expansion (common / b.record.denominator) b.number

  abbrev then_b : List Lit → Circuit Pair
  then_b xs = expand_b >>= λ ys. ret (paired xs ys)

  is_both : (expand_a >>= then_b) ≡ both a b
  is_both = rw is-least

  module _ {from : Cursor} {before : List ℤ} (room : RoomFor from (both a b) before) where
    room_both : RoomFor from (expand_a >>= then_b) before
    room_both = rw is_both room

    pub first_room : RoomFor from expand_a before
    first_room = bind_first expand_a then_b room_both

    module _ {middle : List ℤ} {p : Made (List Lit)} (u : Makes from expand_a before middle p) where
      room_b : RoomFor p.to (then_b p.value) middle
      room_b = bind_next expand_a then_b room_both u

      pub second_room : RoomFor p.to expand_b middle
      second_room = bind_first expand_b (λ ys. ret (paired p.value ys)) room_b

      module _ {after : List ℤ} {q : Made (List Lit)} (v : Makes p.to expand_b middle after q) where
        pub pair_made : Makes from (both a b) before after (record { value = paired p.value q.value; to = q.to })
        pair_made =
            rw is_both at (bind_makes expand_a then_b room_both u (bind_makes expand_b (λ ys. ret (paired p.value ys)) room_b v (makes_none q.to (paired p.value q.value) after)))

        -- as wide as acceptance says
        pub pair_wide : IsOver a → IsOver b → max (length p.value) (length q.value) ≡ larger a.record b.record
        pair_wide over_a over_b =
            let x = ap length u.value ∙ expansion_width from.next (common / a.record.denominator) a.number (omega (arith, over_a.operand)) in
            let y = ap length v.value ∙ expansion_width p.to.next (common / b.record.denominator) b.number (omega (arith, over_b.operand)) in
            rw (x, y, over_a.operand.width, over_b.operand.width, is-least)

-- what a circuit makes is a row
module _ {A : Type 0} (c : Circuit A) (f : A → Cell) {from : Cursor} {before : List ℤ} (room : RoomFor from (c >>= λ r. ret (f r)) before) where
  pub row_room : RoomFor from c before
  row_room = bind_first c (λ r. ret (f r)) room

  pub row_made : {after : List ℤ} {m : Made A} {row : Made (List Lit)} → Makes from c before after m → row.value ≡ (f m.value).literals → row.to ≡ m.to
      → RowMade from (c >>= λ r. ret (f r)) before after row
  row_made {after} {m} w e t =
      let r = bind_makes c (λ r. ret (f r)) room w (makes_none m.to (f m.value) after) in
      record { wrote = rw t r.wrote; literals = e ∙ ap (λ (v : Cell). v.literals) r.value }

-- an operation on two numbers that are brought to one denominator
module _ {A : Type 0} (a b : Operand) (made : List Lit → List Lit → Circuit A) (f : A → Cell) {from : Cursor} {before : List ℤ}
    (room : RoomFor from (brought (cell_of a) (cell_of b) made >>= λ r. ret (f r)) before) where
  abbrev whole : Circuit A
  whole = brought (cell_of a) (cell_of b) made

  abbrev then : Pair → Circuit A
  then p = made p.x p.y

  both_then : (both a b >>= then) ≡ whole
  both_then =
      let d = least (cell_of a) (cell_of b) in
      let x = expansion (d / a.record.denominator) a.number in
      let y = expansion (d / b.record.denominator) b.number in
      bind_assoc x (λ xs. y >>= λ ys. ret (paired xs ys)) then ∙ λ i. x >>= λ xs. bind_assoc y (λ ys. ret (paired xs ys)) then i

  joined : RoomFor from (both a b >>= then) before
  joined = rw both_then (row_room whole f room)

  -- there is room to bring them
  pub bring_room : RoomFor from (both a b) before
  bring_room = bind_first (both a b) then joined

  module _ {middle : List ℤ} {p : Made Pair} (u : Makes from (both a b) before middle p) where
    -- and then for the operation
    pub next_room : RoomFor p.to (made p.value.x p.value.y) middle
    next_room = bind_next (both a b) then joined u

    pub brought_made : {after : List ℤ} {m : Made A} {row : Made (List Lit)} → Makes p.to (made p.value.x p.value.y) middle after m → row.value ≡ (f m.value).literals → row.to ≡ m.to
        → RowMade from (whole >>= λ r. ret (f r)) before after row
    brought_made v e t = row_made whole f room (rw both_then at (bind_makes (both a b) then joined u v)) e t
