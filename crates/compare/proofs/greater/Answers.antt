-- `compare::greater` meets its contract. Assumes nothing.
use mathlib.Core.Path.{◌≡◌, refl}
use mathlib.Core.Logic.{◌⊎◌, inl, inr}
use Prim.Native.Nat.{◌+◌, ◌≤◌, ◌<◌}
use native.Mathlib.Omega.{arith}
use lib.ListN.{length}
use Rattle.std.proofs.lemmas.Slice.Zip.{either_empty_from_Zip}
use Rattle.std.specs.Iterator.Adapters.{enumerate_source}
use Rattle.frame.proofs.Loops.{left_none}
use Rattle.compare.proofs.Turns.{second_is, order_room, order_turn, greater_none}
use Rattle.compare.proofs.greater.Goals as goal
use Rattle.compare.proofs.greater.Goals.{then-i-x, else-i-x}

pub put_order-g-requires : goal.put_order-g-requires
put_order-g-requires c =
    let ((x-is, y-is), i-is, next-is, fits) = rw c.in-Some.is at c.next.ensures.steps in
    let came : ((c.in-Some.i + 1 < length c.args.x.now) × (c.if-i-x.p ≡ c.in-Some.a.now)) ⊎ ((length c.args.x.now ≤ c.in-Some.i + 1) × (c.if-i-x.p ≡ c.in-Some.b.now))
    = elim c.if-i-x.branch [ then-i-x w ↦ inl (w.if-i-x.true, w.p-is) | else-i-x w ↦ inr (w.if-i-x.false, w.p-is) ] in
    order_room _ _ _ _ _ _ (rw (x-is, y-is) at c.loop-i.invariant.left) (second_is _ _ _ _ _ _ (rw (x-is, ← i-is) at c.loop-i.invariant.places) came)

pub loop-i-preserved : goal.loop-i-preserved
loop-i-preserved c =
    let ((x-is, y-is), i-is, next-is, fits) = rw c.in-Some.is at c.next.ensures.steps in
    let places = rw (x-is, ← i-is) at c.loop-i.invariant.places in
    let came : ((c.in-Some.i + 1 < length c.args.x.now) × (c.if-i-x.p ≡ c.in-Some.a.now)) ⊎ ((length c.args.x.now ≤ c.in-Some.i + 1) × (c.if-i-x.p ≡ c.in-Some.b.now))
    = elim c.if-i-x.branch [ then-i-x w ↦ inl (w.if-i-x.true, w.p-is) | else-i-x w ↦ inr (w.if-i-x.false, w.p-is) ] in
    record { places = omega arith; left = order_turn _ _ _ _ _ _ (rw (x-is, y-is) at c.loop-i.invariant.left) (second_is _ _ _ _ _ _ places came) c.put_order-g.ensures }

pub returns : goal.returns
returns c =
    let left = c.loop-i.invariant.left in
    let steps = rw c.in-None.is at c.next.ensures.steps in
    elim (either_empty_from_Zip (enumerate_source c.loop-i.i-iterator) (enumerate_source c.next.new.self) _ refl steps.0)
    [ inl e ↦ left_none (rw e at left) | inr e ↦ left_none (rw (e, greater_none) at left) ]
