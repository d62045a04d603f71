-- `extend::PartialModel::put_bits` meets its contract. Assumes nothing.
use mathlib.Core.Path.{◌∙◌}
use native.Mathlib.Omega.{arith}
use mir.Facts.{to_z-of_z}
use Rattle.extend.proofs.Words.{kept}
use Rattle.extend.proofs.Turns.{bits_step, bits_end}
use Rattle.extend.proofs.PartialModel.put_bits.Goals as goal

pub loop-preserved : goal.loop-preserved
loop-preserved c = bits_step _ _ c.loop.invariant (omega arith) c.put.ensures c.odd.ensures (kept c.half-v.result c.half-v.type_inv ∙ c.half-v.ensures)

pub returns : goal.returns
returns c = rw (to_z-of_z c.ranges.v) at (bits_end _ _ c.loop.invariant (omega arith))
