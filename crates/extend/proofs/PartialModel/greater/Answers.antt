-- `extend::PartialModel::greater` meets its contract. Assumes nothing.
use Rattle.std.proofs.Common.{rules}
use mathlib.Core.Path.{◌≡◌, ◌∙◌}
use Prim.Native.Nat.{◌-◌}
use native.Mathlib.Omega.{arith}
use lib.Dec.{eqb}
use mir.Facts.{to_z-of_z}
use Rattle.whole.specs.Tests.{if◌then◌otherwise◌}
use Rattle.extend.proofs.Words.{kept}
use Rattle.extend.proofs.Turns.{exceeding_step, exceeding_end}
use Rattle.extend.proofs.PartialModel.greater.Goals as goal

pub loop-left-preserved : goal.loop-left-preserved
loop-left-preserved c =
    let p : c.if-left-eq0.p ≡ (if eqb (c.loop-left.left - 1) 0 then c.odd-b.result otherwise c.odd-a.result) = search rules in
    let x = kept c.half-x.result c.half-x.type_inv ∙ c.half-x.ensures in
    let y = kept c.half-y.result c.half-y.type_inv ∙ c.half-y.ensures in
    exceeding_step _ _ _ _ c.loop-left.invariant (omega arith) c.put_order-above.ensures.bits c.odd-a.ensures c.odd-b.ensures p c.put_order-above.ensures.above x y

pub returns : goal.returns
returns c = rw (to_z-of_z c.ranges.x, to_z-of_z c.ranges.y) at (exceeding_end _ _ _ _ c.loop-left.invariant (omega arith))
