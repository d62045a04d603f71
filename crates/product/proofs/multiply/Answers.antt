-- `product::multiply` meets its contract. Assumes nothing.
use mathlib.Core.Path.{◌≡◌, refl, sym, ◌∙◌}
use mathlib.Core.List.{List, [], ◌∷◌, ◌++◌}
use mathlib.Core.Logic.{◌⊎◌, inl, inr}
use Prim.Native.Nat.{ℕ, ◌+◌, ◌<◌}
use native.Mathlib.Omega.{arith}
use native.Mathlib.Numerals.{add-one}
use lib.ListN.{length, get_or, drop, length-append, length-drop}
use lib.Seq.{drop-cons, take_all}
use Rattle.circuit.specs.Literals.{Lit}
use Rattle.circuit.specs.Numbers.{ands, add_rows, multiplier}
use Rattle.frame.proofs.Writing.{makes_none, bind_first}
use Rattle.frame.proofs.Loops.{left_step, filling_all, filling_end}
use Rattle.product.proofs.Turns.{ands_length, row_length, row_room, row_turn, rows_none}
use Rattle.product.proofs.multiply.Goals as goal
use Rattle.product.proofs.multiply.Goals.{else-loop-bit-test, then-loop-bit-test+in_default-split_first}

-- the element at i, then those behind it
next_is : (l : List Lit) (i : ℕ) (x : Lit) → i < length l → x ≡ get_or l i x → drop i l ≡ x ∷ drop (i + 1) l
next_is l i x h e = rw (add-one, drop-cons l i x h, ← e)

empty_of : (l : List Lit) → length l ≡ 0 → l ≡ []
empty_of [] h = refl
empty_of (x ∷ l) h = absurd (omega arith)

pub returns-in_default : goal.returns-in_default
returns-in_default c =
    let e : c.args.y.now ≡ [] = empty_of c.args.y.now c.in_default.ensures.cases in
    rw (e, c.empty-product.ensures) (makes_none c.args.from [] c.args.slots.now)

pub and_row-total-requires-clause-room : goal.and_row-total-requires-clause-room
and_row-total-requires-clause-room c =
    bind_first (ands (length c.args.x.now) c.args.x.now c.in-Some.first.now) (λ total. add_rows c.in-Some.others.now c.args.x.now total) (rw c.in-Some.ensures.cases.0 at c.requires.room)

pub loop-bit-init : goal.loop-bit-init
loop-bit-init c =
    let x = c.args.x.now in
    let first = c.in-Some.first.now in
    let others = c.in-Some.others.now in
    let total = c.and_row-total.ensures in
    let short = ands_length c.args.from.next (length x) x first in
    let all = filling_all (multiplier x (first ∷ others)) (rw c.in-Some.ensures.cases.0 at c.requires.room) in
    rw (c.empty-product.ensures, c.in-Some.ensures.cases.0)
    (record {
      few = rw total.value (omega arith);
      filling = record { left = left_step (ands (length x) x first) (λ t. add_rows others x t) all.left total };
    })

pub add_row-total-requires-clause-room : goal.add_row-total-requires-clause-room
add_row-total-requires-clause-room c =
    let bits-is = next_is c.in-Some.others.now c.loop-bit.bit-index c.bit-item.result c.loop-bit-test.true c.bit-item.is in
    let total-is = sym c.literals.ensures.literals ∙ c.in-Some-split_first.ensures.cases.0 in
    row_room _ _ _ _ _ (rw (bits-is, total-is) at c.loop-bit.invariant.filling)

pub loop-bit-preserved : goal.loop-bit-preserved
loop-bit-preserved c =
    let bits-is = next_is c.in-Some.others.now c.loop-bit.bit-index c.bit-item.result c.loop-bit-test.true c.bit-item.is in
    let total-is = sym c.literals.ensures.literals ∙ c.in-Some-split_first.ensures.cases.0 in
    let few = rw total-is at c.loop-bit.invariant.few in
    let total = c.add_row-total.ensures in
    let short = row_length c.loop-bit.total.to.next c.args.x.now c.bit-item.result c.in-Some-split_first.above.now in
    rw c.push.ensures (record {
      few = rw (total.value, length-append) (omega arith);
      filling = row_turn _ _ _ _ _ (rw (bits-is, total-is) at c.loop-bit.invariant.filling) total;
    })

pub returns : goal.returns
returns c =
    let none : (length (drop c.loop-bit.bit-index c.in-Some.others.now) ≡ 0) ⊎ (length c.loop-bit.total.value ≡ 0)
    = elim c.loop-bit-test.branch [
      | else-loop-bit-test w ↦ inl (rw length-drop (omega arith))
      | then-loop-bit-test+in_default-split_first w ↦ inr (rw (← w.literals.ensures.literals) w.in_default-split_first.ensures.cases)
    ] in
    let made = filling_end (rw (rows_none _ _ _ none) at c.loop-bit.invariant.filling) in
    let product-is : c.loop-literal.product ≡ c.loop-bit.product ++ c.loop-bit.total.value
    = c.loop-literal.invariant ∙ rw (take_all c.loop-literal.literal-index c.literals-literal-items.result.now c.loop-literal-test.false, c.literals-literal-items.ensures.literals) refl in
    rw product-is made
