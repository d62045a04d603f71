-- `setting_lines::put_setting_line` meets its contract. Assumes nothing.
use Prim.Native.Nat.{◌≤◌}
use native.Mathlib.Omega.{arith}
use lib.ListN.{length, length-append}
use mir.Facts.{to_z-of_z}
use Rattle.sheet.proofs.Decimals.{length-decimal, length-signed}
use Rattle.print.proofs.Puts.{put_then}
use Rattle.setting_lines.proofs.Rows.{setting_parts}
use Rattle.setting_lines.proofs.put_setting_line.Goals as goal

pub put_signed-second-requires : goal.put_signed-second-requires
put_signed-second-requires c =
    omega (arith, c.requires, rw length-append at c.put_number-first.ensures.place, length-decimal c.args.i)

pub put_number-requires : goal.put_number-requires
put_number-requires c =
    let e = rw (to_z-of_z c.ranges.numerator, length-append) at c.put_signed-second.ensures.place in
    omega (arith, c.requires, rw length-append at c.put_number-first.ensures.place, e, length-decimal c.args.i, length-signed c.args.numerator)

pub returns : goal.returns
returns c =
    let h : c.args.at ≤ length c.args.out.now = omega (arith, c.requires) in
    let signed_part = rw (to_z-of_z c.ranges.numerator) at c.put_signed-second.ensures in
    rw (← setting_parts c.args.i c.args.numerator c.args.denominator)
    (put_then h (put_then h c.put_number-first.ensures signed_part) c.put_number.ensures)
