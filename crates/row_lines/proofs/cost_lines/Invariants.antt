-- `row_lines::cost_lines` meets its contract. Assumes nothing.
use lib.ListN.{drop}
use Rattle.sheet.specs.Texts.{cost_line}
use Rattle.row_lines.proofs.Lines.{Left}
use Rattle.row_lines.proofs.cost_lines.Given as goal

abbrev pub invariant-loop-i : goal.invariant-loop-i
invariant-loop-i l = Left cost_line l.records l.initial.out l.out l.i l.at (drop l.i l.records)
