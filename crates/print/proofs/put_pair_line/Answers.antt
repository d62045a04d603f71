-- `print::put_pair_line` meets its contract. Assumes nothing.
use Prim.Native.Nat.{◌≤◌}
use native.Mathlib.Omega.{arith}
use lib.ListN.{length, length-append}
use Rattle.sheet.proofs.Decimals.{length-decimal}
use Rattle.print.proofs.Puts.{put_then}
use Rattle.print.proofs.Pieces.{pair_parts}
use Rattle.print.proofs.put_pair_line.Goals as goal

pub put_number-requires : goal.put_number-requires
put_number-requires c =
    let e = c.put_number-second.ensures.place in
    omega (arith, c.requires, c.put_text-first.ensures.place, rw length-append at e, length-decimal c.args.m)

pub returns : goal.returns
returns c =
    let h : c.args.at ≤ length c.args.out.now = omega (arith, c.requires) in
    rw (← pair_parts c.args.word.now c.args.m c.args.n)
    (put_then h (put_then h c.put_text-first.ensures c.put_number-second.ensures) c.put_number.ensures)
