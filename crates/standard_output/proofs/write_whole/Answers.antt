-- What a further write took is behind what was taken before it. Assumes nothing.
use Rattle.std.proofs.Common.{◌≡◌, ℕ, List, ◌-◌, length, take, drop, sym, arith, length-drop}
use Rattle.std.proofs.Math.Seq.{take-add, take-length}
use Rattle.std.proofs.KnownBytes.{Appends-trans}
use Rattle.std.specs.Io.KnownBytes.{Appends}
use Rattle.standard_output.proofs.write_whole.Goals as goal

-- the part that is lent to a write is all that is left
whole_rest : (l : List ℕ) (i : ℕ) → take (length l - i) (drop i l) ≡ drop i l
whole_rest l i = rw (sym (length-drop i l)) (take-length (drop i l))

pub loop-at-preserved : goal.loop-at-preserved
loop-at-preserved g c =
    let more = rw (whole_rest c.args.bytes.now c.loop-at.at) at c.in_ok-taken.ensures.bytes in (
      omega (arith, c.in_ok-taken.ensures.bound, length-drop c.loop-at.at c.args.bytes.now),
      rw (take-add c.loop-at.at c.in_ok-taken.taken c.args.bytes.now) (Appends-trans _ _ _ _ _ c.loop-at.invariant.1 more),
    )
