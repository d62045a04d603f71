-- `fordrambler::fill` meets its contract. Assumes nothing.
use Rattle.frame.specs.Frame.{front}
use Rattle.fordrambler.proofs.fill.Goals as goal

pub returns : goal.returns
unfolding front
returns c = rw c.copy_from_slice.ensures.after
