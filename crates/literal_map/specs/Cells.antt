-- A row as the literal map and its record have it. Assumes nothing.
use Rattle.std.specs.Prelude.{◌≡◌, List, [], ◌∷◌, ℕ, ◌+◌, ◌*◌, ◌≤◌, ◌<◌, ℤ, length, take, drop}
use Rattle.circuit.specs.Literals.{falsity}
use Rattle.sheet.specs.declared.Record.{Record}
use Rattle.sheet.specs.Acceptance.{missing}
use Rattle.sheet.specs.Steps.{Cell, cell}
use Rattle.frame.specs.Literals.{literals, AllLit}
use Rattle.literal_map.specs.declared.Operand.{Operand}

-- row x, whose record is r
abbrev pub operand_in : List ℤ → (x : ℕ) → Record → Operand
operand_in map x r = record { number = literals (take r.width (drop (48 * x) map)); «record» = r }

-- what stands for a row that is not earlier
abbrev pub false_row : Operand
false_row = record { number = falsity ∷ []; «record» = missing }

pub record InMap (map : List ℤ) (x : ℕ) (r : Record) : Type 0 where
  pub some : 1 ≤ r.width
  pub narrow : r.width ≤ 48
  pub long : 48 * x + 48 ≤ length map
  pub all : AllLit r.width (drop (48 * x) map)

-- the map has the literals of row x if it is among the first
abbrev pub Held : List ℤ → (rows x : ℕ) → Record → Type 0
Held map rows x r = x < rows → InMap map x r

-- as many literals as the record says
pub record IsOperand (o : Operand) : Type 0 where
  pub some : 1 ≤ o.record.width
  pub width : length o.number ≡ o.record.width

abbrev pub cell_of : Operand → Cell
cell_of o = cell o.number o.record.denominator

-- what is referred to: an earlier row with its record, or else false
pub record Referred (map : List ℤ) (rows x : ℕ) (of : Record) (o : Operand) : Type 0 where
  pub earlier : x < rows → o ≡ operand_in map x of
  pub not_earlier : rows ≤ x → o ≡ false_row
  pub operand : IsOperand o
