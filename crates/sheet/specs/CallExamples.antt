-- One table through the public calls, a 2-bit natural above 2: what each call's relation says of it, proved by computing. The buffers
-- that are lent hold sevens, and are longer than needed where nothing else is said. Assumes nothing.
use Rattle.std.specs.Prelude.{Ok, refl, true, false, List, [], ◌∷◌, ℕ, replicate, ℤ, pos}
use Rattle.whole.specs.Divisors.{gcd, lcm}
use Rattle.circuit.specs.Counting.{a_product, expanded_width, an_expansion}
use Rattle.sheet.specs.declared.Record.{Record}
use Rattle.sheet.specs.declared.Reason.TheVariants.{FewRecords, FewSlots, ValueOutside, FalseClause}
use Rattle.sheet.specs.Rows.{named, read_row, rows_of}
use Rattle.sheet.specs.Values.{row_val, row_values}
use Rattle.sheet.specs.Acceptance.{refused, missing, judge, walk, accept}
use Rattle.sheet.specs.Steps.{row_steps, steps, cells, clauses_but_last, last_clause, clauses, slots_for, map_for, read_rows, settings, extension}
use Rattle.sheet.specs.Calls.{checking, writing, row_clauses, choosing, evaluating, extending, decodable, decoding, left, sheet_records, sheet_map, sheet_slots, constraint, part}
use Rattle.sheet.specs.Relations.{Checks, Measures, Writes, GivesRow, Evaluates, Extends, Decodes}
use Rattle.sheet.specs.Examples.{above_two}

abbrev sevens : ℕ → List ℤ
sevens n = replicate n (pos 7)

abbrev blanks : ℕ → List Record
blanks n = replicate n missing

-- what writing leaves
abbrev records : List Record
records = left (accept above_two) sheet_records (blanks 4)

abbrev map : List ℤ
map = left (accept above_two) sheet_map (sevens 150)

abbrev slots : List ℤ
slots = left (accept above_two) sheet_slots (sevens 101)

-- the model of 3, and the same with the second bit false
abbrev three : List ℕ
three = 1 ∷ 1 ∷ 1 ∷ 1 ∷ 1 ∷ 0 ∷ 1 ∷ 0 ∷ 1 ∷ []

abbrev broken : List ℕ
broken = 1 ∷ 1 ∷ 0 ∷ 1 ∷ 1 ∷ 0 ∷ 1 ∷ 0 ∷ 1 ∷ []

pub record AboveTwo : Type 0 where
  pub measured : Measures above_two (Ok (record { unknowns = 1; variables = 9; clauses = 26; slots = 100 }))
  pub too_few_records : Checks above_two (blanks 2) (refused FewRecords 3) (blanks 2)
  pub too_few_slots : Writes above_two (blanks 4) (sevens 150) (sevens 99) (refused FewSlots 100) (blanks 4) (sevens 150) (sevens 99)
  pub no_such_row : GivesRow above_two (sevens 101) 3 [] 22 3
  -- 3 is above 2, and 2 is not; 4 takes three bits
  pub evaluated : Evaluates above_two (pos 3 ∷ []) (sevens 4) (Ok tt) (pos 3 ∷ pos 2 ∷ pos 1 ∷ pos 7 ∷ [])
  pub evaluated_false : Evaluates above_two (pos 2 ∷ []) (sevens 4) (Ok tt) (pos 2 ∷ pos 2 ∷ pos 0 ∷ pos 7 ∷ [])
  pub too_large : Evaluates above_two (pos 4 ∷ []) (sevens 4) (refused ValueOutside 0) (sevens 4)
  pub extended : Extends above_two (pos 3 ∷ []) (replicate 9 7) (Ok true) three
  pub extended_false : Extends above_two (pos 2 ∷ []) (replicate 10 7) (Ok false) (1 ∷ 0 ∷ 1 ∷ 0 ∷ 0 ∷ 0 ∷ 0 ∷ 0 ∷ 0 ∷ 7 ∷ [])
  pub decoded : Decodes above_two (blanks 4) (sevens 150) (sevens 101) three (sevens 2) (Ok tt) records map slots (pos 3 ∷ pos 7 ∷ [])
  -- a false clause: the records, the map and the slots are written, the values untouched
  pub false_clause : Decodes above_two (blanks 4) (sevens 150) (sevens 101) broken (sevens 2) (refused FalseClause 13) records map slots (sevens 2)

pub above_two_lem : AboveTwo
unfolding gcd lcm a_product expanded_width an_expansion named read_row rows_of row_val row_values judge walk accept row_steps steps cells clauses_but_last last_clause clauses slots_for map_for read_rows settings extension checking writing row_clauses choosing evaluating extending decodable decoding left constraint part
above_two_lem = record {
  measured = record { says = refl };
  too_few_records = record { says = refl; records = refl };
  too_few_slots = record { says = refl; records = refl; map = refl; slots = refl };
  no_such_row = record { gives = refl; number = refl; place = refl };
  evaluated = record { says = refl; results = refl };
  evaluated_false = record { says = refl; results = refl };
  too_large = record { says = refl; results = refl };
  extended = record { says = refl; model = refl };
  extended_false = record { says = refl; model = refl };
  decoded = record { says = refl; records = refl; map = refl; slots = refl; values = refl };
  false_clause = record { says = refl; records = refl; map = refl; slots = refl; values = refl };
}
