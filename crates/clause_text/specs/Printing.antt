-- The DIMACS text of slots that stand at the front of others. Assumes nothing.
use Rattle.std.specs.Prelude.{List, ℕ, take, ℤ}
use Rattle.circuit.specs.declared.Counts.{Counts}
use Rattle.print.specs.Pages.{joined}
use Rattle.print.specs.Pieces.{dimacs_pieces}

abbrev pub dimacs_text : Counts → List ℤ → List ℕ
dimacs_text counts slots = joined (dimacs_pieces counts.variables counts.clauses (take counts.slots slots))
