-- One row of a product. Assumes nothing.
use Rattle.std.specs.Prelude.{List, length}
use Rattle.circuit.specs.Literals.{Lit, falsity}
use Rattle.circuit.specs.Circuits.{Circuit, ◌>>=◌}
use Rattle.circuit.specs.Numbers.{adder, ands}

-- AND of `bit` and the literals of x, added to the running total from its place on
abbrev pub added_row : (x : List Lit) (bit : Lit) (total : List Lit) → Circuit (List Lit)
added_row x bit total = do
  row ← ands (length total) x bit
  adder falsity total row
