-- `boolean_row::unknown` meets its contract. Assumes nothing.
use Rattle.std.proofs.Common.{refl, [], ◌∷◌}
use Rattle.circuit.specs.Gates.{free}
use Rattle.frame.specs.Written.{written}
use Rattle.frame.proofs.Writing.{wrote_nothing}
use Rattle.boolean_row.proofs.unknown.Goals as goal

pub returns : goal.returns
unfolding written
returns c = λ slots. record { wrote = rw c.single.ensures.to (wrote_nothing (free ∷ []) slots refl refl refl); literals = rw (c.single.ensures.value, c.fresh.ensures) }
