-- What gates and circuits count: variables, clauses and slots, by the steps. Assumes nothing.
use Rattle.std.specs.Prelude.{ℕ, ◌+◌, ◌-◌, ◌*◌, ◌/◌, eqb, pos}
use Rattle.whole.specs.Tests.{if◌then◌otherwise◌}
use Rattle.whole.specs.Bits.{fewest}
use Rattle.circuit.specs.declared.Counts.{Counts}

abbrev pub counts : (unknowns variables clauses slots : ℕ) → Counts
counts u v c s = record { unknowns = u; variables = v; clauses = c; slots = s }

infixl 20 ◌⊕◌
abbrev pub ◌⊕◌ : Counts → Counts → Counts
a ⊕ b = counts (a.unknowns + b.unknowns) (a.variables + b.variables) (a.clauses + b.clauses) (a.slots + b.slots)

abbrev pub times : ℕ → Counts → Counts
times n a = counts (n * a.unknowns) (n * a.variables) (n * a.clauses) (n * a.slots)

abbrev pub nothing : Counts
nothing = counts 0 0 0 0

-- a clause of n literals takes n + 1 slots
abbrev pub an_and : Counts
an_and = counts 0 1 3 10

abbrev pub a_xor : Counts
a_xor = counts 0 1 4 16

abbrev pub a_mux : Counts
a_mux = counts 0 1 4 16

abbrev pub a_maj : Counts
a_maj = counts 0 1 6 24

-- an unknown of p bits
abbrev pub an_unknown : ℕ → Counts
an_unknown p = counts 1 p 0 0

-- per bit of an adder, of greater and of equal
abbrev pub adding_bit : Counts
adding_bit = a_xor ⊕ a_xor ⊕ a_maj

abbrev pub ordering_bit : Counts
ordering_bit = a_xor ⊕ a_mux

abbrev pub matching_bit : Counts
matching_bit = a_xor ⊕ an_and

-- a product of W = w bits: 2W² - W variables, (17W² - 11W)/2 clauses
unfoldable pub a_product : ℕ → Counts
a_product w = counts 0 (2 * (w * w) - w) ((17 * (w * w) - 11 * w) / 2) (33 * (w * w) - 23 * w)

-- the width of a number of w bits multiplied by a factor as by a constant, unless that is 1; and what this counts
unfoldable pub expanded_width : (w factor : ℕ) → ℕ
expanded_width w f = if eqb f 1 then w otherwise w + fewest (pos f)

unfoldable pub an_expansion : (w factor : ℕ) → Counts
an_expansion w f = if eqb f 1 then nothing otherwise a_product (w + fewest (pos f))

-- variable 1 and the first clause; the last clause
abbrev pub the_first : Counts
the_first = counts 0 1 1 2

abbrev pub the_last : Counts
the_last = counts 0 0 1 2
