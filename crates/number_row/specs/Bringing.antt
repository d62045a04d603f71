-- Two numbers brought to one denominator, and an operation on them as a row. Assumes nothing.
use Rattle.std.specs.Prelude.{List}
use Rattle.circuit.specs.Literals.{Lit}
use Rattle.circuit.specs.Circuits.{Circuit, ret}
use Rattle.sheet.specs.Steps.{Cell, boolean_cell, number_cell, least, brought}
use Rattle.literal_map.specs.declared.Operand.{Operand}
use Rattle.literal_map.specs.Cells.{cell_of}
use Rattle.number_row.specs.declared.Pair.{Pair}

-- the literals of both
abbrev pub both : (a b : Operand) → Circuit Pair
both a b = brought (cell_of a) (cell_of b) (λ xs ys. ret (record { x = xs; y = ys }))

-- a row of the number that an operation on both makes, and of the literal
abbrev pub number_of : (a b : Operand) → (List Lit → List Lit → Circuit (List Lit)) → Circuit Cell
number_of a b operation = number_cell (least (cell_of a) (cell_of b)) (brought (cell_of a) (cell_of b) operation)

abbrev pub test_of : (a b : Operand) → (List Lit → List Lit → Circuit Lit) → Circuit Cell
test_of a b operation = boolean_cell (brought (cell_of a) (cell_of b) operation)
