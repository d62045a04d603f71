-- `lines::begins_line` meets its contract. Assumes nothing.
use Prim.Native.Nat.{◌<◌}
use native.Mathlib.Omega.{arith}
use lib.ListN.{length, length-take}
use Rattle.std.proofs.lemmas.List.{get_or-take}
use Rattle.lines.proofs.Laws.{begins_next}
use Rattle.lines.proofs.begins_line.Goals as goal

pub loop-byte-preserved : goal.loop-byte-preserved
loop-byte-preserved c =
    let text = c.args.text.now in
    let i = c.loop-byte.byte-index in
    let h : i < 16 = omega (arith, length-take 16 text) in
    let k : i < length text = omega (arith, length-take 16 text) in
    rw (c.is_digit-good.ensures, get_or-take 16 text i 0 h, begins_next text i k c.loop-byte.good h) c.loop-byte.invariant
