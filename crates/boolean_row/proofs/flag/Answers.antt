-- `boolean_row::flag` meets its contract. Assumes nothing.
use Rattle.frame.proofs.Writing.{wrote_none}
use Rattle.boolean_row.proofs.flag.Goals as goal

pub returns : goal.returns
returns c = λ slots. record { wrote = rw c.single.ensures.to (wrote_none c.args.from slots); literals = rw (c.single.ensures.value, c.known.ensures) }
