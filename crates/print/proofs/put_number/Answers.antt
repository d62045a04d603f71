-- `print::put_number` meets its contract. Assumes nothing.
use Prim.Native.Nat.{◌≤◌, ◌<◌}
use native.Mathlib.Omega.{arith}
use lib.ListN.{length}
use Rattle.sheet.proofs.Decimals.{length-decimal}
use Rattle.print.proofs.Puts.{put_byte, put_then}
use Rattle.print.proofs.put_number.Goals as goal

pub put_decimal-end-requires : goal.put_decimal-end-requires
put_decimal-end-requires c = omega (arith, c.requires, length-decimal c.args.n)

pub bounds-out-end : goal.bounds-out-end
bounds-out-end c =
    omega (arith, c.requires, c.put_decimal-end.ensures.place, length-decimal c.args.n)

pub overflow_add-result : goal.overflow_add-result
overflow_add-result c =
    omega (arith, c.requires, c.put_decimal-end.ensures.place, length-decimal c.args.n)

pub returns : goal.returns
returns c =
    let l = c.put_decimal-end.new.out in
    let h : c.args.at ≤ length c.args.out.now = omega (arith, c.requires) in
    let k : c.put_decimal-end.result < length l = omega (arith, c.requires, c.put_decimal-end.ensures.place, length-decimal c.args.n) in
    put_then h c.put_decimal-end.ensures (put_byte c.put_decimal-end.result c.args.mark l k)
