-- What is proved of these definitions: values are those of fractions, and a table or a model in print is read back. Assumes nothing.
use Rattle.std.specs.Prelude.{Ok, ◌≡◌, Bool, true, false, List, [], ◌∷◌, ◌++◌, ℕ, ◌+◌, ◌*◌, ◌≤◌, ◌<◌, length, ℤ, pos, ◌+ℤ◌, ◌-ℤ◌, ◌*ℤ◌}
use Rattle.std.specs.Int.{◌∣◌}
use Rattle.std.specs.Int.Signed.{lt_z}
use Rattle.whole.specs.Tests.{if◌then◌otherwise◌, eq_z}
use Rattle.sheet.specs.declared.Kind.TheVariants.{Sum, Difference, Product, Choice, Greater, Equal}
use Rattle.sheet.specs.declared.Reason.{Reason}
use Rattle.sheet.specs.Acceptance.{refusal_number, Outcome}
use Rattle.sheet.specs.Calls.{number_of}
use Rattle.sheet.specs.Values.{Value, fraction, truth_of, numerator, denominator, over, value_by}
use Rattle.sheet.specs.Texts.{ascii, Bytes, lines_of, table_in, lines, read_lines, model, model_text, claim_in}

-- v is the fraction n / d, by cross-multiplying
pub record IsFraction (v : Value) (n : ℤ) (d : ℕ) : Type 0 where
  pub same : numerator v *ℤ pos d ≡ n *ℤ pos (denominator v)

-- a number expanded to a multiple of its denominator is the same fraction
abbrev pub ExpandedSame : Type 0
ExpandedSame = (n : ℤ) (d multiple : ℕ) → d ∣ multiple → IsFraction (fraction (over multiple (fraction n d)) multiple) n d

-- rows that refer to the numbers n / d and m / e; the rest of the row (p, x, y and z, a third value c, the value v chosen for an unknown)
-- may be anything
abbrev pub SumIs : Type 0
SumIs =
    (n : ℤ) (d : ℕ) (m : ℤ) (e : ℕ) → 0 < d → 0 < e → (p x y z : ℕ) (c : Value) (v : ℤ)
    → IsFraction (value_by Sum p x y z (fraction n d) (fraction m e) c v) (n *ℤ pos e +ℤ m *ℤ pos d) (d * e)

abbrev pub DifferenceIs : Type 0
DifferenceIs =
    (n : ℤ) (d : ℕ) (m : ℤ) (e : ℕ) → 0 < d → 0 < e → (p x y z : ℕ) (c : Value) (v : ℤ)
    → IsFraction (value_by Difference p x y z (fraction n d) (fraction m e) c v) (n *ℤ pos e -ℤ m *ℤ pos d) (d * e)

abbrev pub ProductIs : Type 0
ProductIs =
    (n : ℤ) (d : ℕ) (m : ℤ) (e : ℕ) → 0 < d → 0 < e → (p x y z : ℕ) (c : Value) (v : ℤ)
    → IsFraction (value_by Product p x y z (fraction n d) (fraction m e) c v) (n *ℤ m) (d * e)

-- n / d if c is true, else m / e
abbrev pub ChoiceIs : Type 0
ChoiceIs =
    (n : ℤ) (d : ℕ) (m : ℤ) (e : ℕ) → 0 < d → 0 < e → (p x y z : ℕ) (c : Value) (v : ℤ)
    → IsFraction (value_by Choice p x y z c (fraction n d) (fraction m e) v) (if truth_of c then n otherwise m) (if truth_of c then d otherwise e)

abbrev pub GreaterIs : Type 0
GreaterIs =
    (n : ℤ) (d : ℕ) (m : ℤ) (e : ℕ) → 0 < d → 0 < e → (p x y z : ℕ) (c : Value) (v : ℤ)
    → truth_of (value_by Greater p x y z (fraction n d) (fraction m e) c v) ≡ lt_z (m *ℤ pos d) (n *ℤ pos e)

abbrev pub EqualIs : Type 0
EqualIs =
    (n : ℤ) (d : ℕ) (m : ℤ) (e : ℕ) → 0 < d → 0 < e → (p x y z : ℕ) (c : Value) (v : ℤ)
    → truth_of (value_by Equal p x y z (fraction n d) (fraction m e) c v) ≡ eq_z (n *ℤ pos e) (m *ℤ pos d)

-- a table of n rows of eight bytes
abbrev pub Rows : (n : ℕ) (table : List ℕ) → Type 0
Rows n table = Bytes table × (length table ≡ 8 * n)

-- in print a table of at most 256 rows is read to its end, whether or not an empty line would end it ..
abbrev pub TableRead : Type 0
TableRead = (n : ℕ) (table : List ℕ) → Rows n table → n ≤ 256 → (blank : Bool) → read_lines blank (lines_of n table) 2048 ≡ lines n (17 * n) false

-- .. or to an empty line, whatever stands behind it ..
abbrev pub TableEnded : Type 0
TableEnded =
    (n : ℕ) (table : List ℕ) → Rows n table → n ≤ 256 → (rest : List ℕ) → read_lines true (lines_of n table ++ ascii "\n" ++ rest) 2048 ≡ lines n (17 * n + 1) true

-- .. and the bytes that its lines spell are its own
abbrev pub TableBytes : Type 0
TableBytes = (rest : List ℕ) (n : ℕ) (table : List ℕ) → Rows n table → table_in n (lines_of n table ++ rest) ≡ table

-- a text that is read as a model is the model's text ..
abbrev pub AcceptedPrinted : Type 0
AcceptedPrinted = (variables : ℕ) (text bytes : List ℕ) → claim_in variables text ≡ Ok (model bytes) → text ≡ model_text bytes

-- every byte is 0 or 1
abbrev pub Bits : List ℕ → Type 0
Bits [] = Unit {0}
Bits (b ∷ bs) = (b ≤ 1) × Bits bs

-- .. and the text of a model is read as the model
abbrev pub PrintedAccepted : Type 0
PrintedAccepted = (bytes : List ℕ) → Bits bytes → claim_in (length bytes) (model_text bytes) ≡ Ok (model bytes)

-- every refusal has one of document 01's numbers, and where a call answers 0 nothing is refused
abbrev pub RefusalsNumbered : Type 0
RefusalsNumbered = (reason : Reason) → (0 < refusal_number reason) × (refusal_number reason ≤ 22)

abbrev pub ZeroIsDone : Type 1
ZeroIsDone = (A : Type 0) (o : Outcome A) → number_of o ≡ 0 → (a : A) × (o ≡ Ok a)
