-- `solver_text::put_model` meets its contract. Assumes nothing.
use lib.ListN.{length}
use Rattle.sheet.specs.Texts.{signs_in}
use Rattle.solver_text.proofs.Variables.{Left}
use Rattle.solver_text.proofs.put_model.Given as goal

abbrev pub invariant-loop-i : goal.invariant-loop-i
invariant-loop-i l = Left (signs_in (length l.initial.model) 1 l.signs) l.model l.i l.rest
