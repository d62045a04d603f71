-- `compare::equal` meets its contract. Assumes nothing.
use mathlib.Core.Logic.{inl, inr}
use Rattle.std.proofs.lemmas.Slice.Zip.{Zip-more, either_empty_from_Zip}
use Rattle.frame.proofs.Loops.{left_none}
use Rattle.compare.proofs.Turns.{match_room, match_turn, equal_none}
use Rattle.compare.proofs.equal.Goals as goal

pub put_match-e-requires : goal.put_match-e-requires
put_match-e-requires c =
    let (x-is, y-is) = Zip-more c.loop-a.a-iterator c.next.new.self _ _ c.in-Some.is c.next.ensures.steps in
    match_room _ _ _ _ _ (rw (x-is, y-is) at c.loop-a.invariant)

pub loop-a-preserved : goal.loop-a-preserved
loop-a-preserved c =
    let (x-is, y-is) = Zip-more c.loop-a.a-iterator c.next.new.self _ _ c.in-Some.is c.next.ensures.steps in
    match_turn _ _ _ _ _ (rw (x-is, y-is) at c.loop-a.invariant) c.put_match-e.ensures

pub returns : goal.returns
returns c =
    let left = c.loop-a.invariant in
    elim (either_empty_from_Zip c.loop-a.a-iterator c.next.new.self _ c.in-None.is c.next.ensures.steps) [ inl e ↦ left_none (rw e at left) | inr e ↦ left_none (rw (e, equal_none) at left) ]
