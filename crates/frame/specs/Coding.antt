-- A literal as data that can be stored: its sign and its number. Assumes nothing.
use Rattle.std.specs.Prelude.{◌≡◌, ℕ, Bool, true, false, refl}
use Rattle.std.specs.Coded.{Coded, code_by, coded×, coded_ℕ, coded_bool}
use Rattle.circuit.specs.Literals.{Lit, plus, minus}

abbrev pub pair_of : Lit → Bool × ℕ
pair_of (plus n) = (true, n)
pair_of (minus n) = (false, n)

abbrev pub of_pair : Bool × ℕ → Lit
of_pair (true, n) = plus n
of_pair (false, n) = minus n

abbrev pub paired : (l : Lit) → of_pair (pair_of l) ≡ l
paired (plus n) = refl
paired (minus n) = refl

abbrev pub lit_code : Coded Lit
lit_code = code_by (Bool × ℕ) (coded× coded_bool coded_ℕ) pair_of of_pair paired
