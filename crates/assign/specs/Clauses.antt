-- Slots back to clauses, and the first clause that is false: refusal 19's place. Assumes nothing.
use Rattle.std.specs.Prelude.{Option, Some, None, Bool, true, false, List, [], ◌∷◌, map, ℕ, zero, suc, ◌+◌, ℤ, pos, negsuc}
use Rattle.circuit.specs.Literals.{Lit, plus, minus, Clause, clause_true}
use Rattle.sheet.specs.Calls.{assigned}

-- a literal more at the front of the first clause; a clause that is never ended is none
abbrev pub onto : Lit → List Clause → List Clause
onto l [] = []
onto l (c ∷ cs) = (l ∷ c) ∷ cs

-- the clauses that slots hold, each ended by 0
abbrev pub clauses_in : List ℤ → List Clause
clauses_in [] = []
clauses_in (pos zero ∷ l) = [] ∷ clauses_in l
clauses_in (pos (suc i) ∷ l) = onto (plus i) (clauses_in l)
clauses_in (negsuc i ∷ l) = onto (minus i) (clauses_in l)

-- which of them a model makes true
abbrev pub truths : (model : List ℕ) → List Clause → List Bool
truths model cs = map (clause_true (assigned model)) cs

-- the number of the first that is false, `from` the number of the first of all; none if every one is true
abbrev pub first_false_from : (from : ℕ) → List Bool → Option ℕ
first_false_from n [] = None
first_false_from n (true ∷ bs) = first_false_from (n + 1) bs
first_false_from n (false ∷ bs) = Some n
