-- `print::put_signed` meets its contract. Assumes nothing.
use mathlib.Core.Path.{◌≡◌}
use Prim.Native.Nat.{◌≤◌, ◌<◌}
use native.Mathlib.Omega.{arith}
use lib.ListN.{length}
use Rattle.std.proofs.lemmas.Int.{to_z-of_z}
use Rattle.sheet.specs.Texts.{signed}
use Rattle.print.proofs.Numerals.{signed_printed}
use Rattle.print.proofs.Puts.{put_byte, put_then}
use Rattle.print.proofs.put_signed.Goals as goal

pub returns : goal.returns
returns c =
    let text : c.as_bytes.result.now ≡ signed c.args.x = grind (arith, to_z-of_z, signed_printed) in
    let h : c.args.at ≤ length c.args.out.now = omega (arith, c.requires) in
    let k : c.put_text-end.result < length c.put_text-end.new.out = omega arith in
    put_then h (rw text at c.put_text-end.ensures) (put_byte c.put_text-end.result c.args.mark c.put_text-end.new.out k)
