-- What the gates of an operation on numbers hold, of its operands. Assumes nothing.
use Rattle.std.specs.Prelude.{Bool, true, false, List, ◌++◌, ◌+◌}
use Rattle.whole.specs.Tests.{if◌then◌otherwise◌}
use Rattle.whole.specs.Bits.{bits_of}
use Rattle.trace.specs.Traces.{adding, multiplying, exceeding, equalling, turned}
use Rattle.number_extender.specs.declared.Operand.{Operand}
use Rattle.number_extender.specs.Operands.{is_true, both_brought, common_width, left, right}

abbrev pub of_sum : (a b : Operand) → List Bool
of_sum a b = both_brought a b ++ adding false (common_width a b + 1) (left a b) (right a b)

abbrev pub of_difference : (a b : Operand) → List Bool
of_difference a b = both_brought a b ++ adding true (common_width a b + 1) (left a b) (turned (right a b))

abbrev pub of_product : (a b : Operand) → List Bool
of_product a b = multiplying (a.record.width + b.record.width) a.numerator b.numerator

abbrev pub of_choice : (a b c : Operand) → List Bool
of_choice a b c = both_brought b c ++ bits_of (common_width b c) (if is_true a then left b c otherwise right b c)

abbrev pub of_greater : (a b : Operand) → List Bool
of_greater a b = both_brought a b ++ exceeding false (common_width a b) (left a b) (right a b)

abbrev pub of_equal : (a b : Operand) → List Bool
of_equal a b = both_brought a b ++ equalling true (common_width a b) (left a b) (right a b)
