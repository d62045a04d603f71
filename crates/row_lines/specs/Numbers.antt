-- Rows as numbers: each a numerator over its record's denominator, a Boolean's 0 or 1 over 1. Assumes nothing.
use Rattle.std.specs.Prelude.{List, [], ◌∷◌, ℤ}
use Rattle.sheet.specs.declared.Record.{Record}
use Rattle.sheet.specs.Values.{Value, fraction}

unfoldable pub over_records : List Record → List ℤ → List Value
over_records [] ns = []
over_records (r ∷ rs) [] = []
over_records (r ∷ rs) (n ∷ ns) = fraction n r.denominator ∷ over_records rs ns
