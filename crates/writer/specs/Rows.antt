-- What the rows of a table write. Assumes nothing.
use Rattle.std.specs.Prelude.{List, [], ℤ}
use Rattle.circuit.specs.Circuits.{gates}
use Rattle.sheet.specs.declared.Fields.{Fields}
use Rattle.sheet.specs.Steps.{steps_from}
use Rattle.frame.specs.Written.{written}

-- behind the first unit
unfoldable pub row_slots : List Fields → List ℤ
row_slots rows = written 1 (gates 1 (steps_from [] rows))
