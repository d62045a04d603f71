-- Document 01's "Plausible and wrong", met by circuits of constants that run gate by gate: one table with one theorem, proved by computing.
-- Assumes nothing.
use Rattle.std.specs.Prelude.{◌≡◌, refl, true, false, List, [], ◌∷◌, map, ℕ, zero, suc, ◌+◌, length, ℤ, pos, neg_ℤ}
use Rattle.whole.specs.Bits.{bit, to_int}
use Rattle.circuit.specs.Literals.{Lit, plus, truth, falsity, Clause, Assignment, lit_true, all_true}
use Rattle.circuit.specs.Gates.{Gate, and, xor, mux, maj, gate_clauses}
use Rattle.circuit.specs.Circuits.{Circuit, gates, out, run}
use Rattle.circuit.specs.Numbers.{constant, sum, difference, product, expansion, greater, equal, choice}

pub record Example : Type 0 where
  pub shows : List ℤ
  pub wanted : List ℤ

infix 3 ◌gives◌
abbrev pub ◌gives◌ : List ℤ → List ℤ → Example
a gives b = record { shows = a; wanted = b }

-- variable 1 is truth, and no gate is free
module _ {A : Type 0} where
  abbrev ran : Circuit A → Assignment
  ran c = true ∷ run (true ∷ []) (gates 1 c) []

-- the number and its width
abbrev number : Circuit (List Lit) → List ℤ
number c = to_int (map (lit_true (ran c)) (out 1 c)) ∷ pos (length (out 1 c)) ∷ []

abbrev test : Circuit Lit → List ℤ
test c = pos (bit (lit_true (ran c) (out 1 c))) ∷ []

-- of how many assignments of n variables, followed by s, the clauses are true
abbrev meetings : (n : ℕ) → Assignment → List Clause → ℕ
meetings zero s cs = bit (all_true s cs)
meetings (suc n) s cs = meetings n (true ∷ s) cs + meetings n (false ∷ s) cs

-- each gate makes variable 1 of variables 2, 3 and 4
abbrev kinds : List Gate
kinds = and (plus 1) (plus 2) ∷ xor (plus 1) (plus 2) ∷ mux (plus 1) (plus 2) (plus 3) ∷ maj (plus 1) (plus 2) (plus 3) ∷ []

abbrev natural : ℕ → List Lit
natural n = constant (pos n)

abbrev negative : ℕ → List Lit
negative n = constant (neg_ℤ (pos n))

abbrev pub examples : List Example
examples =
    -- each of the 8 choices of variables 2, 3 and 4 is carried by one assignment; AND has 3 clauses, XOR and MUX 4, MAJ 6
    (map (λ g. pos (meetings 4 [] (gate_clauses 0 g))) kinds gives pos 8 ∷ pos 8 ∷ pos 8 ∷ pos 8 ∷ [])
    ∷ (map (λ g. pos (length (gate_clauses 0 g))) kinds gives pos 3 ∷ pos 4 ∷ pos 4 ∷ pos 6 ∷ [])
    -- -8 times -8, -1 times -1, 3 expanded by 2 and by 1
    ∷ (number (product (negative 8) (negative 8)) gives pos 64 ∷ pos 8 ∷ [])
    ∷ (number (product (negative 1) (negative 1)) gives pos 1 ∷ pos 2 ∷ [])
    ∷ (number (expansion 2 (natural 3)) gives pos 6 ∷ pos 6 ∷ [])
    ∷ (number (expansion 1 (natural 3)) gives pos 3 ∷ pos 3 ∷ [])
    -- 7 + 1, 0 - (-4)
    ∷ (number (sum (natural 7) (natural 1)) gives pos 8 ∷ pos 5 ∷ [])
    ∷ (number (difference (natural 0) (negative 4)) gives pos 4 ∷ pos 4 ∷ [])
    -- above: -1 and 0, 0 and -1, 0 and 0, 4 and 0, 0 and 4
    ∷ (test (greater (negative 1) (natural 0)) gives pos 0 ∷ [])
    ∷ (test (greater (natural 0) (negative 1)) gives pos 1 ∷ [])
    ∷ (test (greater (natural 0) (natural 0)) gives pos 0 ∷ [])
    ∷ (test (greater (natural 4) (natural 0)) gives pos 1 ∷ [])
    ∷ (test (greater (natural 0) (natural 4)) gives pos 0 ∷ [])
    -- equal: 3 and 3, 1 and -1
    ∷ (test (equal (natural 3) (natural 3)) gives pos 1 ∷ [])
    ∷ (test (equal (natural 1) (negative 1)) gives pos 0 ∷ [])
    -- 5 if true and -2 otherwise
    ∷ (number (choice truth (natural 5) (negative 2)) gives pos 5 ∷ pos 4 ∷ [])
    ∷ (number (choice falsity (natural 5) (negative 2)) gives neg_ℤ (pos 2) ∷ pos 4 ∷ [])
    ∷ []

pub examples_hold : map (λ (e : Example). e.shows) examples ≡ map (λ (e : Example). e.wanted) examples
examples_hold = refl
