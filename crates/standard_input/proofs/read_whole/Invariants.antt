-- `standard_input::read_whole` meets its contract. Assumes nothing.
use mathlib.Core.Path.{◌≡◌}
use Prim.Native.Nat.{◌+◌, ◌-◌, ◌≤◌}
use lib.ListN.{length, take}
use Rattle.std.specs.Io.KnownBytes.{Consumes}
use Rattle.standard_input.specs.declared.Progress.TheVariants.{Going}
use Rattle.standard_input.specs.Reads.{Reached}
use Rattle.standard_input.proofs.read_whole.Given as goal

abbrev pub invariant-loop-there : goal.invariant-loop-there
invariant-loop-there g l = record {
  long : length l.buf ≡ length l.initial.buf;
  within : l.at ≤ length l.initial.buf;
  reached : Reached (length l.initial.buf) (Going l.at l.patience);
  held : Consumes (g.R.Read.remaining l.initial.reader) (g.R.Read.remaining l.reader) (take l.at l.buf);
}

abbrev pub decreases-loop-there : goal.decreases-loop-there
decreases-loop-there g l = length l.initial.buf - l.at + l.patience
