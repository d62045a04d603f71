-- `print::put_text` meets its contract. Assumes nothing.
use mathlib.Core.Path.{◌≡◌, refl}
use Prim.Native.Nat.{◌+◌, ◌-◌}
use native.Mathlib.Omega.{arith}
use lib.ListN.{length}
use Rattle.frame.proofs.Frames.{lent_part}
use Rattle.print.proofs.put_text.Goals as goal

pub returns : goal.returns
returns c =
    let n : c.args.at + length c.args.text.now - c.args.at ≡ length c.args.text.now = omega arith in
    record { place = refl; bytes = lent_part _ _ _ _ _ n c.copy_from_slice.ensures.after }
