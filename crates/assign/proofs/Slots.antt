-- The slots of clauses that name variables that are made: what a scan of them asks. Assumes nothing.
use mathlib.Core.List.{List, [], ◌∷◌, ◌++◌, map}
use Prim.Native.Nat.{ℕ, zero, suc, ◌≤◌, ◌<◌}
use native.Mathlib.Omega.{arith}
use lib.IntN.{ℤ, pos}
use Rattle.circuit.specs.Literals.{plus, minus, Clause, slot, slots_of}
use Rattle.circuit.proofs.Bounds.{bound}
use Rattle.sheet.proofs.Naming.{AllNamed}
use Rattle.assign.specs.Model.{SlotOf, AllSlotOf}

abbrev Each : ℕ → List ℤ → Type 0
Each m [] = Unit {0}
Each m (x ∷ l) = SlotOf m x × Each m l

each_at : (m : ℕ) (l : List ℤ) → Each m l → AllSlotOf m l
each_at m [] h i k = absurd (omega arith)
each_at m (x ∷ l) h zero k = h.0
each_at m (x ∷ l) h (suc i) k = each_at m l h.1 i (omega arith)

module _ (m : ℕ) (h : m < 2147483648) where
  clause_slots : (c : Clause) (l : List ℤ) → bound c ≤ m → Each m l → Each m (map slot c ++ pos 0 ∷ l)
  clause_slots [] l k r = (record { within = omega arith; fits = omega arith }, r)
  clause_slots (plus i ∷ c) l k r = (record { within = omega arith; fits = omega arith }, clause_slots c l (omega arith) r)
  clause_slots (minus i ∷ c) l k r = (record { within = omega arith; fits = omega arith }, clause_slots c l (omega arith) r)

  each_slots : (cs : List Clause) → AllNamed m cs → Each m (slots_of cs)
  each_slots [] k = tt
  each_slots (c ∷ cs) k = clause_slots c (slots_of cs) k.0 (each_slots cs k.1)

  pub slots_name : (cs : List Clause) → AllNamed m cs → AllSlotOf m (slots_of cs)
  slots_name cs k = each_at m (slots_of cs) (each_slots cs k)
