-- The loop of `literal_map::load`. Assumes nothing.
use Rattle.std.proofs.Common.{◌≡◌, take}
use Rattle.frame.specs.Literals.{literals}
use Rattle.literal_map.proofs.load.Given as goal

-- the first literals are read
abbrev pub invariant-loop-slot : goal.invariant-loop-slot
invariant-loop-slot l = l.number ≡ literals (take l.slot-index l.slot-items)
