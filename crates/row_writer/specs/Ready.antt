-- A row that is ready to be written: it passed, and so did the rows that it refers to. Assumes nothing.
use Rattle.std.specs.Prelude.{◌≡◌, false, ◌≤◌}
use Rattle.circuit.specs.Circuits.{Circuit}
use Rattle.sheet.specs.declared.Fields.{Fields}
use Rattle.sheet.specs.declared.References.{References}
use Rattle.sheet.specs.Rows.{uses}
use Rattle.sheet.specs.Acceptance.{out_of_range, plan_by}
use Rattle.sheet.specs.Steps.{Cell, steps_by}
use Rattle.literal_map.specs.declared.Operand.{Operand}
use Rattle.literal_map.specs.Cells.{cell_of}
use Rattle.number_row.specs.Over.{IsOver}

-- the row's circuit
abbrev pub steps_over : Fields → References Operand → Circuit Cell
steps_over f of = steps_by f.kind f.p f.x f.y f.z (cell_of of.x) (cell_of of.y) (cell_of of.z)

pub record Ready (f : Fields) (of : References Operand) : Type 0 where
  pub left : IsOver of.x
  pub right : IsOver of.y
  pub third : IsOver of.z
  pub ranged : out_of_range (uses f.kind) f.p f.x f.z ≡ false
  pub widest : (plan_by f.kind f.p f.x f.y f.z of.x.record of.y.record of.z.record).widest ≤ 48
