-- `extend::PartialModel::add` meets its contract. Assumes nothing.
use mathlib.Core.Path.{◌∙◌}
use native.Mathlib.Omega.{arith}
use mir.Facts.{to_z-of_z}
use Rattle.extend.proofs.Words.{kept}
use Rattle.extend.proofs.Turns.{adding_step, adding_end}
use Rattle.extend.proofs.PartialModel.add.Goals as goal

pub loop-preserved : goal.loop-preserved
loop-preserved c =
    let x = kept c.half-x.result c.half-x.type_inv ∙ c.half-x.ensures in
    let y = kept c.half-y.result c.half-y.type_inv ∙ c.half-y.ensures in
    adding_step _ _ _ _ c.loop.invariant (omega arith) c.put_sum-carry.ensures.bits c.odd.ensures c.odd-in-loop.ensures c.put_sum-carry.ensures.carry x y

pub returns : goal.returns
returns c = rw (to_z-of_z c.ranges.x, to_z-of_z c.ranges.y) at (adding_end _ _ _ _ c.loop.invariant (omega arith))
