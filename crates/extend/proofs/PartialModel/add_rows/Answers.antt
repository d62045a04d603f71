-- `extend::PartialModel::add_rows` meets its contract. Assumes nothing.
use mathlib.Core.Path.{◌≡◌, ◌∙◌}
use Prim.Native.Nat.{suc, ◌-◌}
use native.Mathlib.Omega.{arith}
use mir.Syntax.{w64}
use mir.Val.{to_z, of_z}
use mir.Facts.{to_z-of_z}
use Rattle.whole.specs.Bits.{half}
use Rattle.extend.proofs.Words.{kept}
use Rattle.trace.specs.Traces.{row_of}
use Rattle.extend.proofs.Putting.{left_all}
use Rattle.extend.proofs.Rows.{row_room, sum_room, rows_step, rows_end}
use Rattle.extend.proofs.PartialModel.add_rows.Goals as goal
use Rattle.extend.proofs.PartialModel.add_rows.Goals.{After-half-above}

-- in a turn: a row is left, which is of x and y, and half the total
module _ (u : After-half-above) where
  some : u.loop-left.left ≡ suc (u.loop-left.left - 1)
  some = omega arith

  is_row : to_z w64 (of_z w64 u.masked-row.result) ≡ row_of (to_z w64 (of_z w64 u.args.x)) (to_z w64 u.loop-left.y-bits)
  is_row = kept u.masked-row.result u.masked-row.type_inv ∙ u.masked-row.ensures

  is_half : to_z w64 (of_z w64 u.half-above.result) ≡ half (to_z w64 u.loop-left.total-bits)
  is_half = kept u.half-above.result u.half-above.type_inv ∙ u.half-above.ensures

pub loop-left-init : goal.loop-left-init
loop-left-init c =
    rw (to_z-of_z c.ranges.x, to_z-of_z c.ranges.y, to_z-of_z c.ranges.total)
    (record { fits_x = c.requires.fits_x; fits_total = c.requires.fits_total; left = left_all c.requires.room })

pub put_bits-requires : goal.put_bits-requires
put_bits-requires c =
    let u = (goal.at.put_bits-requires c).After-half-above in
    row_room u.loop-left.invariant (some u) (is_row u) (is_half u)

pub add-requires : goal.add-requires
add-requires c =
    let u = (goal.at.add-requires c).After-half-above in
    sum_room u.loop-left.invariant (some u) (is_row u) (is_half u) c.put_bits.ensures

pub loop-left-preserved : goal.loop-left-preserved
loop-left-preserved c =
    let u = (goal.at.loop-left-preserved c).After-half-above in
    rows_step u.loop-left.invariant (some u) (is_row u) (is_half u) c.put_bits.ensures c.add.ensures (kept c.half-y.result c.half-y.type_inv ∙ c.half-y.ensures)

pub returns : goal.returns
returns c = rw (to_z-of_z c.ranges.x, to_z-of_z c.ranges.y, to_z-of_z c.ranges.total) at (rows_end c.loop-left.invariant (omega arith))
