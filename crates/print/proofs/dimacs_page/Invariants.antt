-- `print::dimacs_page` meets its contract. Assumes nothing.
use Rattle.print.specs.Pieces.{dimacs_pieces}
use Rattle.print.proofs.Pages.{Left}
use Rattle.print.proofs.dimacs_page.Given as goal

abbrev pub invariant-loop-next : goal.invariant-loop-next
invariant-loop-next l = Left (dimacs_pieces l.variables l.clauses l.slots) l.from l.initial.out l.out l.next l.size
