-- `adder::add` meets its contract. Assumes nothing.
use mathlib.Core.Logic.{inl, inr}
use native.Mathlib.Omega.{arith}
use lib.ListN.{length-append}
use Rattle.std.proofs.lemmas.Slice.Zip.{Zip-more, either_empty_from_Zip}
use Rattle.frame.proofs.Loops.{filling_none}
use Rattle.adder.proofs.Turns.{bit_room, bit_turn, adder_none}
use Rattle.adder.proofs.add.Goals as goal

pub put_bit-bit-requires : goal.put_bit-bit-requires
put_bit-bit-requires c =
    let (x-is, y-is) = Zip-more c.loop-a.a-iterator c.next.new.self _ _ c.in-Some.is c.next.ensures.steps in
    bit_room _ _ _ _ _ (rw (x-is, y-is) at c.loop-a.invariant.filling)

pub loop-a-preserved : goal.loop-a-preserved
loop-a-preserved c =
    let (x-is, y-is) = Zip-more c.loop-a.a-iterator c.next.new.self _ _ c.in-Some.is c.next.ensures.steps in
    let few = rw x-is at c.loop-a.invariant.few in
    rw c.push.ensures (record { few = simp length-append (omega arith); filling = bit_turn _ _ _ _ _ (rw (x-is, y-is) at c.loop-a.invariant.filling) c.put_bit-bit.ensures })

pub returns : goal.returns
returns c =
    let filling = c.loop-a.invariant.filling in
    elim (either_empty_from_Zip c.loop-a.a-iterator c.next.new.self _ c.in-None.is c.next.ensures.steps) [ inl e ↦ filling_none (rw e at filling) | inr e ↦ filling_none (rw (e, adder_none) at filling) ]
