-- `extend::PartialModel::equal` meets its contract. Assumes nothing.
use mathlib.Core.Path.{◌∙◌}
use native.Mathlib.Omega.{arith}
use mir.Facts.{to_z-of_z}
use Rattle.extend.proofs.Words.{kept}
use Rattle.extend.proofs.Turns.{equalling_step, equalling_end}
use Rattle.extend.proofs.PartialModel.equal.Goals as goal

pub loop-preserved : goal.loop-preserved
loop-preserved c =
    let x = kept c.half-x.result c.half-x.type_inv ∙ c.half-x.ensures in
    let y = kept c.half-y.result c.half-y.type_inv ∙ c.half-y.ensures in
    equalling_step _ _ _ _ c.loop.invariant (omega arith) c.put_match-same.ensures.bits c.odd.ensures c.odd-in-loop.ensures c.put_match-same.ensures.same x y

pub returns : goal.returns
returns c = rw (to_z-of_z c.ranges.x, to_z-of_z c.ranges.y) at (equalling_end _ _ _ _ c.loop.invariant (omega arith))
