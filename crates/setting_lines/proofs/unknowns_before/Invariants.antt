-- `setting_lines::unknowns_before` meets its contract. Assumes nothing.
use mathlib.Core.Path.{◌≡◌}
use Rattle.setting_lines.specs.Settings.{unknowns_in}
use Rattle.setting_lines.proofs.unknowns_before.Given as goal

abbrev pub invariant-loop-row : goal.invariant-loop-row
invariant-loop-row l = l.n ≡ unknowns_in l.row l.table
