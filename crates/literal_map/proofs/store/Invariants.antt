-- The loop of `literal_map::store`. Assumes nothing.
use Rattle.std.proofs.Common.{◌≡◌, take}
use Rattle.sheet.specs.Steps.{page}
use Rattle.literal_map.proofs.store.Given as goal

-- the first literals are put
abbrev pub invariant-loop-i : goal.invariant-loop-i
invariant-loop-i l = l.places ≡ page (take l.i l.literal-items)
