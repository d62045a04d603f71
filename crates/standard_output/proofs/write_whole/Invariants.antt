-- `standard_output::write_whole` meets its contract: what is behind is what was taken so far. Assumes nothing.
use Rattle.std.specs.Prelude.{◌-◌, ◌≤◌, length, take}
use Rattle.std.specs.Io.KnownBytes.{Appends}
use Rattle.standard_output.proofs.write_whole.Given as goal

abbrev pub invariant-loop-at : goal.invariant-loop-at
invariant-loop-at g l = (l.at ≤ length l.bytes) × Appends (g.W.Write.contents l.fn.to) (g.W.Write.contents l.to) (take l.at l.bytes)

abbrev pub decreases-loop-at : goal.decreases-loop-at
decreases-loop-at g l = length l.bytes - l.at
