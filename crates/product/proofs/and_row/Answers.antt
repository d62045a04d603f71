-- `product::and_row` meets its contract. Assumes nothing.
use mathlib.Core.Path.{◌≡◌}
use Prim.Native.Nat.{suc}
use native.Mathlib.Omega.{arith}
use lib.ListN.{length-append}
use Rattle.std.specs.Iterator.Adapters.{take_count}
use Rattle.frame.proofs.Loops.{filling_none}
use Rattle.product.proofs.Turns.{and_room, and_turn, ands_none}
use Rattle.product.proofs.and_row.Goals as goal

pub and-g-requires : goal.and-g-requires
and-g-requires c =
    let (x-is, left-is) = rw c.in-Some.is at c.next.ensures.steps in
    let n-is : take_count c.loop-a.a-iterator ≡ suc (take_count c.next.new.self) = omega arith in
    and_room _ _ _ _ (rw (x-is, n-is) at c.loop-a.invariant.filling)

pub loop-a-preserved : goal.loop-a-preserved
loop-a-preserved c =
    let (x-is, left-is) = rw c.in-Some.is at c.next.ensures.steps in
    let n-is : take_count c.loop-a.a-iterator ≡ suc (take_count c.next.new.self) = omega arith in
    let few = rw n-is at c.loop-a.invariant.few in
    rw c.push.ensures (record { few = simp length-append (omega arith); filling = and_turn _ _ _ _ (rw (x-is, n-is) at c.loop-a.invariant.filling) c.and-g.ensures })

pub returns : goal.returns
returns c =
    let steps = rw c.in-None.is at c.next.ensures.steps in
    filling_none (rw (ands_none _ _ _ (λ h. (steps h).0)) at c.loop-a.invariant.filling)
