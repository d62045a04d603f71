-- Document 01's examples that are marked *, each refusal of a table once, and one sheet of every kind, as one table with one
-- theorem, proved by computing. Assumes nothing.
use Rattle.std.specs.Prelude.{Ok, Err, ◌≡◌, refl, List, [], ◌∷◌, ◌++◌, map, ℕ, ◌/◌, ◌%◌, length, replicate, ℤ, pos, negsuc}
use Rattle.std.proofs.Math.Option.{Option, none, some, bind}
use Prim.Native.String.{String}
use Rattle.whole.specs.Bits.{bit}
use Rattle.whole.specs.Divisors.{gcd, lcm}
use Rattle.circuit.specs.Literals.{plus, Clause, slots_of}
use Rattle.circuit.specs.Circuits.{gates, clauses_from}
use Rattle.circuit.specs.Numbers.{product}
use Rattle.circuit.specs.Counting.{a_product, expanded_width, an_expansion}
use Rattle.circuit.specs.Examples.{Example, ◌gives◌}
use Rattle.sheet.specs.declared.Record.{Record}
use Rattle.sheet.specs.declared.Reason.{Reason}
use Rattle.sheet.specs.declared.Reason.TheVariants.{WrongLength, TooManyRows, UnknownKind, UnusedField, OutOfRange, NotEarlier, WrongSort, LargeDenominator, TooWide, EndsInNumber, FewRecords, ShortMap, FewSlots, ValueCount, ValueOutside, ModelLength, NotABit, ShortBuffer, FalseClause, BadLine, BadClaim, NoSuchRow}
use Rattle.sheet.specs.Rows.{named, read_row, rows_of}
use Rattle.sheet.specs.Values.{numerator, denominator, row_val, row_values}
use Rattle.sheet.specs.Acceptance.{refusal_number, Outcome, Sheet, judge, walk, accept}
use Rattle.sheet.specs.Steps.{row_steps, steps, cells, clauses_but_last, last_clause, clauses, slots_for, read_rows, settings, extension}
use Rattle.sheet.specs.Calls.{constraint}
use Rattle.sheet.specs.Texts.{ascii, begins_line, bytes_in, table_in, lines_from, read_lines, digits_in, decimal, signed, slot_text, slot_texts, dimacs, setting_lines, row_lines, refused_line, variable_text, variable_texts, model_line, sign_at, signs_in, starts, claim_in}
use Rattle.sheet.specs.Dimacs.{pieces, filled, words, digits_behind, natural, integer, clauses_spelt, behind_comments, line_in, read_dimacs}
use Rattle.sheet.specs.Programs.{clause_program, costs_program, reply, settings_program, values_program}

-- a row's bytes, and those of a number constant by its 32 bits
abbrev row : (kind p x y z : ℕ) → List ℕ
row k p x y z = k ∷ p ∷ x / 256 ∷ x % 256 ∷ y / 256 ∷ y % 256 ∷ z / 256 ∷ z % 256 ∷ []

abbrev number : (word denominator : ℕ) → List ℕ
number n d = row 0x04 0 (n / 65536) (n % 65536) d

-- a Boolean constant, so that a table of numbers may end
abbrev end : List ℕ
end = row 0x00 0 1 0 0

-- what a table shows: number and place of its refusal, or what is asked of the sheet
abbrev shown : (Sheet → List ℤ) → Outcome Sheet → List ℤ
shown f (Err refusal) = pos (refusal_number refusal.reason) ∷ pos refusal.place ∷ []
shown f (Ok sheet) = f sheet

abbrev widths : List ℕ → List ℤ
widths table = shown (λ sheet. map (λ (r : Record). pos r.width) sheet.records) (accept table)

abbrev evaluations : List ℕ → List ℤ → List ℤ
evaluations table vs = shown (λ sheet. map numerator (row_values sheet.rows vs)) (accept table)

abbrev numerators : List ℕ → List ℤ
numerators table = evaluations table []

abbrev denominators : List ℕ → List ℤ
denominators table = shown (λ sheet. map (λ v. pos (denominator v)) (row_values sheet.rows [])) (accept table)

abbrev sizes : List ℕ → List ℤ
sizes table = shown (λ sheet. pos sheet.counts.variables ∷ pos sheet.counts.clauses ∷ pos sheet.counts.slots ∷ []) (accept table)

-- the same by counting what the steps make
abbrev made : List ℕ → List ℤ
made table = shown (λ sheet.
    pos (length (gates 0 (steps sheet.rows))) ∷ pos (length (clauses sheet.rows)) ∷ pos (length (slots_for sheet.rows)) ∷ []) (accept table)

-- the constraint at each value of one unknown
abbrev truths : List ℕ → List ℤ → List ℤ
truths table vs = shown (λ sheet. map (λ v. pos (bit (constraint sheet (v ∷ [])))) vs) (accept table)

-- the rows' numerators as the steps have them: read from the assignment that extends the values
abbrev readings : List ℕ → List ℤ → List ℤ
readings table vs = shown (λ sheet. map numerator (read_rows sheet (extension sheet.rows vs))) (accept table)

-- the lines of a 2-bit natural above 2; what the settings program writes of them and a text behind them
abbrev above_two_lines : List ℕ
above_two_lines = ascii "0202000000000001\n0400000000020001\n3000000000010000\n"

abbrev settled : String → List ℤ
settled text = map pos (settings_program (above_two_lines ++ ascii text))

-- what a text shows that is read as DIMACS CNF: the variables, and the clauses in slots; nothing where it is none
abbrev shown_cnf : Option (ℕ × List Clause) → List ℤ
shown_cnf none = []
shown_cnf (some cnf) = pos cnf.0 ∷ slots_of cnf.1

abbrev cnf_in : String → List ℤ
cnf_in text = shown_cnf (read_dimacs (ascii text))

-- two 1-bit integers and their product
abbrev one_bits : List ℕ
one_bits = row 0x03 1 0 0 1 ++ row 0x03 1 0 0 1 ++ row 0x22 0 0 1 0 ++ end

abbrev pub above_two : List ℕ
above_two = row 0x02 2 0 0 1 ++ number 2 1 ++ row 0x30 0 0 1 0

-- true; p; a 3-bit natural n; a 3-bit integer i over 2; -3/4; not p; true and p; p or not p; p implies p; p iff p; n + i/2;
-- i/2 - (-3/4); i/2 times -3/4; n if p, else -3/4; the sum above the difference; the choice equal to n
abbrev every_kind : List ℕ
every_kind =
    row 0x00 0 1 0 0 ++ row 0x01 0 0 0 0 ++ row 0x02 3 0 0 1 ++ row 0x03 3 0 0 2 ++ number 0xffff_fffd 4
    ++ row 0x10 0 1 0 0 ++ row 0x11 0 0 1 0 ++ row 0x12 0 1 5 0 ++ row 0x13 0 1 6 0 ++ row 0x14 0 1 6 0
    ++ row 0x20 0 2 3 0 ++ row 0x21 0 3 4 0 ++ row 0x22 0 3 4 0 ++ row 0x23 0 1 2 4 ++ row 0x30 0 10 11 0 ++ row 0x31 0 13 2 0

-- at p true, n = 5 and i = -4; and at p false, n = 0 and i = 3
abbrev numerators_high : List ℤ
numerators_high =
    pos 1 ∷ pos 1 ∷ pos 5 ∷ negsuc 3 ∷ negsuc 2 ∷ pos 0 ∷ pos 1 ∷ pos 1 ∷ pos 1 ∷ pos 1 ∷ pos 6 ∷ negsuc 4 ∷ pos 12 ∷ pos 20 ∷ pos 1 ∷ pos 1 ∷ []

abbrev numerators_low : List ℤ
numerators_low =
    pos 1 ∷ pos 0 ∷ pos 0 ∷ pos 3 ∷ negsuc 2 ∷ pos 1 ∷ pos 0 ∷ pos 1 ∷ pos 1 ∷ pos 1 ∷ pos 3 ∷ pos 9 ∷ negsuc 8 ∷ negsuc 2 ∷ pos 0 ∷ pos 0 ∷ []

-- document 01's table of refusals, by reason
abbrev every_reason : List Reason
every_reason =
    WrongLength ∷ TooManyRows ∷ UnknownKind ∷ UnusedField ∷ OutOfRange ∷ NotEarlier ∷ WrongSort ∷ LargeDenominator ∷ TooWide ∷ EndsInNumber ∷ FewRecords ∷ ShortMap ∷ FewSlots
    ∷ ValueCount ∷ ValueOutside ∷ ModelLength ∷ NotABit ∷ ShortBuffer ∷ FalseClause ∷ BadLine ∷ BadClaim ∷ NoSuchRow ∷ []

abbrev numbered : List Reason → List ℤ
numbered reasons = map (λ reason. pos (refusal_number reason)) reasons

abbrev pub examples : List Example
examples =
    -- constants: 0 and -1, 1 and -2, 127 and -128, 128 and -129
    (widths (number 0 1 ++ number 0xffff_ffff 1 ++ end) gives pos 1 ∷ pos 1 ∷ pos 1 ∷ [])
    ∷ (widths (number 1 1 ++ number 0xffff_fffe 1 ++ end) gives pos 2 ∷ pos 2 ∷ pos 1 ∷ [])
    ∷ (widths (number 127 1 ++ number 0xffff_ff80 1 ++ end) gives pos 8 ∷ pos 8 ∷ pos 1 ∷ [])
    ∷ (widths (number 128 1 ++ number 0xffff_ff7f 1 ++ end) gives pos 9 ∷ pos 9 ∷ pos 1 ∷ [])
    -- 0 - (-4); -8 times -8
    ∷ (widths (number 0 1 ++ number 0xffff_fffc 1 ++ row 0x21 0 0 1 0 ++ end) gives pos 1 ∷ pos 3 ∷ pos 4 ∷ pos 1 ∷ [])
    ∷ (numerators (number 0 1 ++ number 0xffff_fffc 1 ++ row 0x21 0 0 1 0 ++ end) gives pos 0 ∷ negsuc 3 ∷ pos 4 ∷ pos 1 ∷ [])
    ∷ (widths (number 0xffff_fff8 1 ++ row 0x22 0 0 0 0 ++ end) gives pos 4 ∷ pos 8 ∷ pos 1 ∷ [])
    ∷ (numerators (number 0xffff_fff8 1 ++ row 0x22 0 0 0 0 ++ end) gives negsuc 7 ∷ pos 64 ∷ pos 1 ∷ [])
    -- 1-bit integers, -1 times -1: by values, and by steps; the product alone; the table with both integers and both units
    ∷ (widths one_bits gives pos 1 ∷ pos 1 ∷ pos 2 ∷ pos 1 ∷ [])
    ∷ (evaluations one_bits (negsuc 0 ∷ negsuc 0 ∷ []) gives negsuc 0 ∷ negsuc 0 ∷ pos 1 ∷ pos 1 ∷ [])
    ∷ (readings one_bits (negsuc 0 ∷ negsuc 0 ∷ []) gives negsuc 0 ∷ negsuc 0 ∷ pos 1 ∷ pos 1 ∷ [])
    ∷ (pos (length (gates 3 (product (plus 1 ∷ []) (plus 2 ∷ [])))) ∷ pos (length (clauses_from 3 (gates 3 (product (plus 1 ∷ []) (plus 2 ∷ []))))) ∷ []
    gives pos 6 ∷ pos 23 ∷ [])
    ∷ (sizes one_bits gives pos 9 ∷ pos 25 ∷ pos 90 ∷ [])
    -- 3/2 + -1/4: the sum has one bit more than the expanded 6; ((1/2 times 4/2) times 3/2) + 1/2
    ∷ (widths (number 3 2 ++ number 0xffff_ffff 4 ++ row 0x20 0 0 1 0 ++ end) gives pos 3 ∷ pos 1 ∷ pos 7 ∷ pos 1 ∷ [])
    ∷ (pos (expanded_width 3 2) ∷ [] gives pos 6 ∷ [])
    ∷ (numerators (number 3 2 ++ number 0xffff_ffff 4 ++ row 0x20 0 0 1 0 ++ end) gives pos 3 ∷ negsuc 0 ∷ pos 5 ∷ pos 1 ∷ [])
    ∷ (denominators (number 3 2 ++ number 0xffff_ffff 4 ++ row 0x20 0 0 1 0 ++ end) gives pos 2 ∷ pos 4 ∷ pos 4 ∷ pos 1 ∷ [])
    ∷ (numerators (number 1 2 ++ number 4 2 ++ number 3 2 ++ row 0x22 0 0 1 0 ++ row 0x22 0 3 2 0 ++ row 0x20 0 4 0 0 ++ end)
    gives pos 1 ∷ pos 4 ∷ pos 3 ∷ pos 4 ∷ pos 12 ∷ pos 16 ∷ pos 1 ∷ [])
    ∷ (denominators (number 1 2 ++ number 4 2 ++ number 3 2 ++ row 0x22 0 0 1 0 ++ row 0x22 0 3 2 0 ++ row 0x20 0 4 0 0 ++ end)
    gives pos 2 ∷ pos 2 ∷ pos 2 ∷ pos 4 ∷ pos 8 ∷ pos 8 ∷ pos 1 ∷ [])
    -- 1/2 = 2/4
    ∷ (numerators (number 1 2 ++ number 2 4 ++ row 0x31 0 0 1 0) gives pos 1 ∷ pos 2 ∷ pos 1 ∷ [])
    -- the whole example
    ∷ (map pos (clause_program (ascii "0100000000000000\n1000000000000000\n1100000000010000\n"))
    gives map pos (ascii "p cnf 3 5\n1 0\n-3 2 0\n-3 -2 0\n3 -2 2 0\n3 0\n"))
    -- the same read as DIMACS CNF; then comments, blanks, a clause over two lines and two in one; an empty clause; no clause
    ∷ (shown_cnf (read_dimacs (clause_program (ascii "0100000000000000\n1000000000000000\n1100000000010000\n")))
    gives pos 3 ∷ pos 1 ∷ pos 0 ∷ negsuc 2 ∷ pos 2 ∷ pos 0 ∷ negsuc 2 ∷ negsuc 1 ∷ pos 0 ∷ pos 3 ∷ negsuc 1 ∷ pos 2 ∷ pos 0 ∷ pos 3 ∷ pos 0 ∷ [])
    ∷ (cnf_in "c from a planner\nc\np  cnf 12  2 \n 1\t-12\n\n7 0 2 0" gives pos 12 ∷ pos 1 ∷ negsuc 11 ∷ pos 7 ∷ pos 0 ∷ pos 2 ∷ pos 0 ∷ [])
    ∷ (cnf_in "p cnf 0 1\n0\n" gives pos 0 ∷ pos 0 ∷ [])
    ∷ (cnf_in "p cnf 1 0\n" gives pos 1 ∷ [])
    -- no DIMACS CNF: a clause too few, one too many, a variable too large, no 0 at the end, a minus alone, a word, a plus, no header, a header
    -- in two lines or with a third number
    ∷ (cnf_in "p cnf 2 2\n1 -2 0\n" gives [])
    ∷ (cnf_in "p cnf 2 1\n1 -2 0\n2 0\n" gives [])
    ∷ (cnf_in "p cnf 2 1\n1 -3 0\n" gives [])
    ∷ (cnf_in "p cnf 2 2\n1 0\n-2\n" gives [])
    ∷ (cnf_in "p cnf 2 1\n1 - 0\n" gives [])
    ∷ (cnf_in "p cnf 2 1\n1 x 0\n" gives [])
    ∷ (cnf_in "p cnf 2 1\n+1 0\n" gives [])
    ∷ (cnf_in "1 0\n" gives [])
    ∷ (cnf_in "p cnf 2\n1\n1 0\n" gives [])
    ∷ (cnf_in "p cnf 2 1 1\n1 0\n" gives [])
    -- the settings program on a 2-bit natural above 2: a model, none claimed, a false clause; and what is refused on the way there
    ∷ (settled "\ns SATISFIABLE\nv 1 2 3 4 5 -6 7 -8 9 0\n" gives map pos (ascii "0 3 1\n"))
    ∷ (settled "\ns UNSATISFIABLE\n" gives map pos (ascii "none claimed\n"))
    ∷ (settled "\ns SATISFIABLE\nv 1 2 -3 4 5 -6 7 -8 9 0\n" gives map pos (ascii "refused 19 13\n"))
    ∷ (settled "\ns SATISFIABLE\nv 1 2 3 0\n" gives map pos (ascii "refused 21 1\n"))
    ∷ (settled "\ns SATISFIABLE\nv 1 2 3 4 5 -6 7 -8 9 0\n\n" gives map pos (ascii "refused 21 2\n"))
    ∷ (settled "" gives map pos (ascii "refused 21 0\n"))
    ∷ (settled "s SATISFIABLE\n" gives map pos (ascii "refused 20 3\n"))
    -- the same rows' exact values, and what each costs
    ∷ (map pos (values_program (above_two_lines ++ ascii "\ns SATISFIABLE\nv 1 2 3 4 5 -6 7 -8 9 0\n")) gives map pos (ascii "0 3 1\n1 2 1\n2 1 1\n"))
    ∷ (map pos (costs_program above_two_lines) gives map pos (ascii "0 0\n1 0\n2 96\n"))
    ∷ (map pos (settings_program []) gives map pos (ascii "refused 1 0\n"))
    ∷ (map pos (clause_program (ascii "0100000000000000\n010000000000000A\n")) gives map pos (ascii "refused 20 1\n"))
    ∷ (map pos (clause_program (ascii "0100000000000000")) gives map pos (ascii "refused 20 0\n"))
    ∷ (map pos (clause_program (ascii "0100000000000000\n\n")) gives map pos (ascii "refused 20 1\n"))
    -- a 2-bit natural above 2: its sizes, accepted and made; of 0, 1, 2 and 3 only 3 is a solution
    ∷ (sizes above_two gives pos 9 ∷ pos 26 ∷ pos 100 ∷ [])
    ∷ (made above_two gives pos 9 ∷ pos 26 ∷ pos 100 ∷ [])
    ∷ (truths above_two (pos 0 ∷ pos 1 ∷ pos 2 ∷ pos 3 ∷ []) gives pos 0 ∷ pos 0 ∷ pos 0 ∷ pos 1 ∷ [])
    -- the numbers of all refusals: of a table; of buffers; of values and models; of texts; of one row's clauses
    ∷ (numbered every_reason gives pos 1 ∷ pos 2 ∷ pos 3 ∷ pos 4 ∷ pos 5 ∷ pos 6 ∷ pos 7 ∷ pos 8 ∷ pos 9 ∷ pos 10 ∷ pos 11 ∷ pos 12 ∷ pos 13 ∷ pos 14 ∷ pos 15 ∷ pos 16 ∷ pos 17 ∷ pos 18 ∷ pos 19 ∷ pos 20 ∷ pos 21 ∷ pos 22 ∷ [])
    -- refusals 1 to 10 with their places; and 4 before 5, 6 before 7, 8 before 9
    ∷ (widths [] gives pos 1 ∷ pos 0 ∷ [])
    ∷ (widths (0 ∷ end) gives pos 1 ∷ pos 0 ∷ [])
    ∷ (widths (replicate 2056 0) gives pos 2 ∷ pos 0 ∷ [])
    ∷ (widths (end ++ row 0x05 0 0 0 0) gives pos 3 ∷ pos 1 ∷ [])
    ∷ (widths (end ++ row 0x01 1 0 0 0) gives pos 4 ∷ pos 1 ∷ [])
    ∷ (widths (end ++ row 0x00 0 2 0 0) gives pos 5 ∷ pos 1 ∷ [])
    ∷ (widths (end ++ row 0x10 0 1 0 0) gives pos 6 ∷ pos 1 ∷ [])
    ∷ (widths (end ++ row 0x20 0 0 0 0) gives pos 7 ∷ pos 1 ∷ [])
    ∷ (widths (number 1 64 ++ number 1 65 ++ row 0x22 0 0 1 0) gives pos 8 ∷ pos 2 ∷ [])
    ∷ (widths (row 0x03 24 0 0 1 ++ row 0x03 25 0 0 1 ++ row 0x22 0 0 1 0) gives pos 9 ∷ pos 2 ∷ [])
    ∷ (widths (end ++ number 1 1) gives pos 10 ∷ pos 1 ∷ [])
    ∷ (widths (row 0x02 0 1 0 1) gives pos 4 ∷ pos 0 ∷ [])
    ∷ (widths (number 1 1 ++ row 0x23 0 0 0 1) gives pos 6 ∷ pos 1 ∷ [])
    ∷ (widths (row 0x03 32 0 0 64 ++ row 0x03 32 0 0 65 ++ row 0x22 0 0 1 0) gives pos 8 ∷ pos 2 ∷ [])
    -- a sheet of every kind: by values, and by steps
    ∷ (evaluations every_kind (pos 1 ∷ pos 5 ∷ negsuc 3 ∷ []) gives numerators_high)
    ∷ (readings every_kind (pos 1 ∷ pos 5 ∷ negsuc 3 ∷ []) gives numerators_high)
    ∷ (evaluations every_kind (pos 0 ∷ pos 0 ∷ pos 3 ∷ []) gives numerators_low)
    ∷ (readings every_kind (pos 0 ∷ pos 0 ∷ pos 3 ∷ []) gives numerators_low)
    ∷ []

pub examples_hold : map (λ (e : Example). e.shows) examples ≡ map (λ (e : Example). e.wanted) examples
unfolding gcd lcm a_product expanded_width an_expansion named read_row rows_of row_val row_values judge walk accept row_steps steps cells clauses_but_last last_clause clauses slots_for read_rows settings extension constraint begins_line bytes_in table_in lines_from read_lines digits_in decimal signed slot_text slot_texts dimacs setting_lines row_lines refused_line variable_text variable_texts model_line sign_at signs_in starts claim_in bind pieces filled words digits_behind natural integer clauses_spelt behind_comments line_in read_dimacs clause_program costs_program reply settings_program values_program
examples_hold = refl
