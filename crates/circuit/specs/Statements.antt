-- What is proved of gates and circuits, over every width: wherever their clauses are true, they give the exact result. Assumes nothing.
use Rattle.std.specs.Prelude.{◌≡◌, ◌↔◌, true, false, List, map, ℕ, ◌<◌, length, get_or, ℤ, pos, ◌+ℤ◌, ◌-ℤ◌, ◌*ℤ◌}
use Rattle.std.specs.Int.Signed.{lt_z}
use Rattle.whole.specs.Tests.{if◌then◌otherwise◌, eq_z}
use Rattle.whole.specs.Bits.{to_int}
use Rattle.circuit.specs.Literals.{Lit, truth, Assignment, lit_true, all_true}
use Rattle.circuit.specs.Gates.{Gate, gate_clauses, gate_val}
use Rattle.circuit.specs.Circuits.{Circuit, gates, out, clauses_from}
use Rattle.circuit.specs.Numbers.{sum, difference, product, expansion, greater, equal, choice}

-- the clauses of a gate say that its variable has the gate's value, no more and no less
abbrev pub GateIff : Type 0
GateIff = (s : Assignment) (i : ℕ) (g : Gate) → (all_true s (gate_clauses i g) ≡ true) ↔ (get_or s i false ≡ gate_val s (get_or s i false) g)

-- an assignment meets a circuit that is made behind n variables: truth is true in it, and so is every clause of the circuit's gates
module _ {A : Type 0} where
  pub record Meets (s : Assignment) (n : ℕ) (c : Circuit A) : Type 0 where
    pub truthful : lit_true s truth ≡ true
    pub clauses : all_true s (clauses_from n (gates n c)) ≡ true

-- the number that literals stand for in an assignment
abbrev pub number : Assignment → List Lit → ℤ
number s ls = to_int (map (lit_true s) ls)

abbrev pub SumExact : Type 0
SumExact =
    (s : Assignment) (n : ℕ) (xs ys : List Lit) → 0 < length xs → 0 < length ys → Meets s n (sum xs ys)
    → number s (out n (sum xs ys)) ≡ number s xs +ℤ number s ys

abbrev pub DifferenceExact : Type 0
DifferenceExact =
    (s : Assignment) (n : ℕ) (xs ys : List Lit) → 0 < length xs → 0 < length ys → Meets s n (difference xs ys)
    → number s (out n (difference xs ys)) ≡ number s xs -ℤ number s ys

abbrev pub ProductExact : Type 0
ProductExact =
    (s : Assignment) (n : ℕ) (xs ys : List Lit) → 0 < length xs → 0 < length ys → Meets s n (product xs ys)
    → number s (out n (product xs ys)) ≡ number s xs *ℤ number s ys

abbrev pub ExpansionExact : Type 0
ExpansionExact =
    (s : Assignment) (n factor : ℕ) (xs : List Lit) → 0 < length xs → Meets s n (expansion factor xs)
    → number s (out n (expansion factor xs)) ≡ number s xs *ℤ pos factor

abbrev pub ChoiceExact : Type 0
ChoiceExact =
    (s : Assignment) (n : ℕ) (c : Lit) (xs ys : List Lit) → 0 < length xs → 0 < length ys → Meets s n (choice c xs ys)
    → number s (out n (choice c xs ys)) ≡ (if lit_true s c then number s xs otherwise number s ys)

abbrev pub GreaterExact : Type 0
GreaterExact =
    (s : Assignment) (n : ℕ) (xs ys : List Lit) → 0 < length xs → 0 < length ys → Meets s n (greater xs ys)
    → lit_true s (out n (greater xs ys)) ≡ lt_z (number s ys) (number s xs)

abbrev pub EqualExact : Type 0
EqualExact =
    (s : Assignment) (n : ℕ) (xs ys : List Lit) → 0 < length xs → 0 < length ys → Meets s n (equal xs ys)
    → lit_true s (out n (equal xs ys)) ≡ eq_z (number s xs) (number s ys)
