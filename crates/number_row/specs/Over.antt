-- A row that another refers to: as many literals as its record says, over a denominator within the limit. Assumes nothing.
use Rattle.numbers.specs.Bounds.{Denominator}
use Rattle.literal_map.specs.declared.Operand.{Operand}
use Rattle.literal_map.specs.Cells.{IsOperand}

pub record IsOver (a : Operand) : Type 0 where
  pub operand : IsOperand a
  pub denominator : Denominator a.record.denominator
