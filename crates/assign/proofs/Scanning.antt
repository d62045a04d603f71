-- Scans: the first byte that is no bit; the first clause that is false, where what is left of the slots answers for the whole. Assumes nothing.
use Rattle.std.proofs.Common.{◌≡◌, refl, sym, ap, ◌∙◌, Bool, true, false, not, ◌||◌, List, [], ◌∷◌, map, ℕ, zero, suc, ◌+◌, ◌<◌, cond, Option, Some, None, length, get_or, drop, ℤ, pos, negsuc, arith, add-one, zero-add, drop-cons}
use Rattle.std.specs.List.{position, position_or_len}
use Rattle.std.proofs.lemmas.Bool.Decides.{nat_tests}
use lib.Dec.{ltb}
use mir.Facts.{to_z-of_z}
use Rattle.whole.specs.Tests.{if◌then◌otherwise◌}
use Rattle.circuit.specs.Literals.{Lit, plus, minus, Clause, Assignment, lit_true, clause_true}
use Rattle.sheet.specs.Calls.{assigned}
use Rattle.assign.specs.Model.{are_bits, value}
use Rattle.assign.specs.Clauses.{onto, clauses_in, first_false_from}

not_bit_from : (n : ℕ) (l : List ℕ)
    → cond (ltb (position_or_len (λ b. ltb 1 b) l) (length l)) (Some (n + position_or_len (λ b. ltb 1 b) l)) None ≡ first_false_from n (are_bits l)
not_bit_from n [] = refl
not_bit_from n (b ∷ l) = grind (arith, nat_tests, not_bit_from (n + 1) l)

pub first_not_bit : (l : List ℕ) → position (λ b. ltb 1 b) l ≡ first_false_from 0 (are_bits l)
first_not_bit l = simp zero-add at (not_bit_from 0 l)

-- the first false clause, where the first has the number n, and t says whether a true literal of it was met before
abbrev pub first_from : Assignment → (n : ℕ) → (t : Bool) → List Clause → Option ℕ
first_from a n t [] = None
first_from a n t (c ∷ cs) = if t || clause_true a c then first_from a (n + 1) false cs otherwise Some n

pub from_one : (a : Assignment) (n : ℕ) (cs : List Clause) → first_from a n false cs ≡ first_false_from n (map (clause_true a) cs)
from_one a n [] = refl
from_one a n (c ∷ cs) = elim (clause_true a c) as (λ b. (if b then first_from a (n + 1) false cs otherwise Some n) ≡ first_false_from n (b ∷ map (clause_true a) cs)) [ true ↦ from_one a (n + 1) cs | false ↦ refl ]

-- a literal at the front
from_onto : (a : Assignment) (n : ℕ) (t : Bool) (l : Lit) (cs : List Clause) → first_from a n t (onto l cs) ≡ first_from a n (t || lit_true a l) cs
from_onto a n t l [] = refl
from_onto a n true l (c ∷ cs) = refl
from_onto a n false l (c ∷ cs) = refl

a_literal : (model : List ℕ) (n : ℕ) (t : Bool) (x : ℤ) (l : List ℤ) → (x ≡ pos 0 → ⊥)
    → first_from (assigned model) n t (clauses_in (x ∷ l)) ≡ first_from (assigned model) n (t || value model x) (clauses_in l)
unfolding value
a_literal model n t (pos zero) l h = absurd (h refl)
a_literal model n t (pos (suc i)) l h = from_onto (assigned model) n t (plus i) (clauses_in l)
a_literal model n t (negsuc i) l h = from_onto (assigned model) n t (minus i) (clauses_in l)

-- where the scan stands
abbrev pub scan : (slots : List ℤ) (model : List ℕ) (i n : ℕ) (t : Bool) → Option ℕ
scan slots model i n t = first_from (assigned model) n t (clauses_in (drop i slots))

-- a slot more is read
module _ (slots : List ℤ) (model : List ℕ) (i n : ℕ) (h : i < length slots) where
  slot_is : {x : ℤ} → get_or slots i (pos 0) ≡ x → drop i slots ≡ x ∷ drop (i + 1) slots
  slot_is e = rw (← e, add-one, drop-cons slots i (pos 0) h)

  pub literal_read : (t : Bool) → (get_or slots i (pos 0) ≡ pos 0 → ⊥) → scan slots model i n t ≡ scan slots model (i + 1) n (t || value model (get_or slots i (pos 0)))
  literal_read t e = rw (slot_is refl) (a_literal model n t (get_or slots i (pos 0)) (drop (i + 1) slots) e)

  pub true_ended : get_or slots i (pos 0) ≡ pos 0 → scan slots model i n true ≡ scan slots model (i + 1) (n + 1) false
  true_ended e = rw (slot_is e)

  pub false_ended : get_or slots i (pos 0) ≡ pos 0 → scan slots model i n false ≡ Some n
  false_ended e = rw (slot_is e)

pub ruleset scans = (from_one, literal_read, true_ended, false_ended, to_z-of_z)
