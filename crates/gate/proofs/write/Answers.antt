-- `gate::write` meets its contract. Assumes nothing.
use Rattle.frame.specs.Frame.{front}
use Rattle.gate.proofs.write.Goals as goal

pub returns : goal.returns
unfolding front
returns c = rw c.copy_from_slice.ensures.after
