-- `evaluate::evaluate` meets its contract. Assumes nothing.
use Rattle.table.proofs.Lent.{read_into}
use Rattle.evaluate.proofs.Evaluating.{chosen_within}
use Rattle.evaluate.proofs.evaluate.Goals as goal

pub fill-requires-clause-chosen : goal.fill-requires-clause-chosen
fill-requires-clause-chosen c = chosen_within c.args.table.now c.args.values.now c.read_chosen.new.sheet (read_into c.read_chosen.ensures.answer c.in_ok-read_chosen.was)
