-- `setting_lines::settings_page` meets its contract. Assumes nothing.
use mathlib.Core.Path.{◌≡◌}
use Prim.Native.Nat.{◌/◌, min}
use lib.ListN.{length}
use Rattle.setting_lines.specs.Settings.{table_pieces, unknowns_in}
use Rattle.print.proofs.Pages.{Left}
use Rattle.setting_lines.proofs.settings_page.Given as goal

-- the unknowns that are passed, and what is left of the page
abbrev pub invariant-loop-row : goal.invariant-loop-row
invariant-loop-row l = record {
  number : l.used ≡ unknowns_in (min l.row (length l.table / 8)) l.table;
  page : Left (table_pieces l.table l.numerators) l.from l.initial.out l.out l.row l.size;
}
