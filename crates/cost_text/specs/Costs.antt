-- What the costs program prints of a table; and that the cut at 65,536 bytes changes no answer. Assumes nothing.
use Rattle.std.specs.Prelude.{◌≡◌, false, List, ℕ}
use Rattle.sheet.specs.Acceptance.{accept}
use Rattle.sheet.specs.Calls.{◌>>=◌, ◌giving◌}
use Rattle.sheet.specs.Texts.{read_lines, table_in, cost_lines}
use Rattle.sheet.specs.Programs.{printed, costs_program}

unfoldable pub cost_text : (table : List ℕ) → List ℕ
cost_text table = printed (accept table giving λ sheet. cost_lines sheet.records)

abbrev pub CostsUncut : Type 0
CostsUncut = (input : List ℕ) → costs_program input ≡ printed (do
  lines ← read_lines false input 2048
  accept (table_in lines.rows input) giving λ sheet. cost_lines sheet.records)
