-- Rows as numbers, one by one; and the exact values of an accepted table's rows are such. Assumes nothing.
use mathlib.Core.Path.{◌≡◌, refl, ap₂}
use mathlib.Core.List.{List, [], ◌∷◌, ◌++◌, map}
use Prim.Native.Nat.{ℕ, ◌+◌, ◌≤◌}
use native.Mathlib.Omega.{arith}
use lib.IntN.{ℤ}
use lib.ListN.{length}
use Rattle.sheet.specs.declared.Record.{Record}
use Rattle.sheet.specs.Values.{Value, boolean, fraction, numerator}
use Rattle.sheet.specs.Texts.{value_line, row_lines, cost_line}
use Rattle.sheet.proofs.Widths.{Holds, AllHold}
use Rattle.print.specs.Pieces.{pair_line}
use Rattle.print.proofs.Pieces.{length_pair}
use Rattle.row_lines.specs.Numbers.{over_records}

-- the record where there is none
abbrev pub zeros : Record
zeros = record { sort = 0; width = 0; denominator = 0; first = 0; slots = 0 }

-- how long a line of costs is
pub cost_short : (i : ℕ) (r : Record) → length (cost_line i r) ≤ 64
unfolding pair_line
cost_short i r = omega (arith, length_pair [] i r.slots)

-- no more rows have a line than have a record; as many as have a numerator, where all of these have records; and none where either is missing
pub numbers_few : (rs : List Record) (ns : List ℤ) → length (over_records rs ns) ≤ length rs
unfolding over_records
numbers_few [] ns = omega arith
numbers_few (r ∷ rs) [] = omega arith
numbers_few (r ∷ rs) (n ∷ ns) = omega (arith, numbers_few rs ns)

pub numbers_many : (rs : List Record) (ns : List ℤ) → length ns ≤ length rs → length (over_records rs ns) ≡ length ns
unfolding over_records
numbers_many [] [] h = refl
numbers_many [] (n ∷ ns) h = absurd (omega arith)
numbers_many (r ∷ rs) [] h = refl
numbers_many (r ∷ rs) (n ∷ ns) h = omega (arith, numbers_many rs ns (omega arith))

pub no_records : (rs : List Record) (ns : List ℤ) → length rs ≡ 0 → length (over_records rs ns) ≡ 0
no_records rs ns e = omega (arith, numbers_few rs ns)

pub no_numbers : (rs : List Record) (ns : List ℤ) → length ns ≡ 0 → length (over_records rs ns) ≡ 0
no_numbers rs ns e = omega (arith, numbers_many rs ns (omega arith))

-- a record has its value's denominator, so its line is its value's
line_is : (i : ℕ) (r : Record) (v : Value) → Holds r v → value_line i (fraction (numerator v) r.denominator) ≡ value_line i v
line_is i r (boolean b) h = rw h.1
line_is i r (fraction n d) h = rw h.denominator

pub lines_are : (i : ℕ) (rs more : List Record) (vs : List Value) → AllHold rs vs → row_lines value_line i (over_records (rs ++ more) (map numerator vs)) ≡ row_lines value_line i vs
unfolding over_records row_lines
lines_are i [] [] [] h = refl
lines_are i [] (r ∷ more) [] h = refl
lines_are i [] more (v ∷ vs) h = absurd h
lines_are i (r ∷ rs) more [] h = absurd h
lines_are i (r ∷ rs) more (v ∷ vs) h = ap₂ ◌++◌ (line_is i r v h.0) (lines_are (i + 1) rs more vs h.1)
