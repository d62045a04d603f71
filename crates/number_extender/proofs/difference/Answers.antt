-- `number_extender::difference` meets its contract. Assumes nothing.
use mathlib.Core.Path.{◌≡◌}
use native.Mathlib.Omega.{arith}
use lib.IntN.{ℤ, negsuc}
use mir.Syntax.{w64}
use mir.Val.{to_z, of_z}
use Rattle.whole.specs.Bits.{Fits}
use Rattle.whole.proofs.Bits.{fits_iff}
use Rattle.extend.proofs.Words.{kept_fit, kept_difference}
use Rattle.trace.specs.Traces.{turned}
use Rattle.extend.proofs.Putting.{room_next, put_then}
use Rattle.number_extender.specs.Operands.{both_brought}
use Rattle.number_extender.proofs.difference.Goals as goal

is_turned : {z : ℤ} → Fits 48 z → to_z w64 (of_z w64 (turned z)) ≡ turned z
is_turned f = let one : Fits 48 (negsuc 0) = fits_iff.1 (omega arith) in kept_difference one f

pub add-requires : goal.add-requires
add-requires c =
    let p = c.bring-p.ensures in
    let m = c.requires.meeting_a_b in
    rw (p.width, kept_fit p.left m.left_fits, kept_fit p.right m.right_fits, is_turned m.right_fits)
    (room_next (both_brought c.args.a c.args.b) _ c.requires.room p.bits)

pub returns : goal.returns
returns c =
    let p = c.bring-p.ensures in
    let m = c.requires.meeting_a_b in
    put_then (both_brought c.args.a c.args.b) _ c.requires.room p.bits
    (rw (p.width, kept_fit p.left m.left_fits, kept_fit p.right m.right_fits, is_turned m.right_fits) at c.add.ensures)
