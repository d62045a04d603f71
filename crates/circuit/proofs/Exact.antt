-- Wherever the clauses of a circuit of numbers are true, its result is exact. Assumes nothing.
use mathlib.Core.Path.{refl}
use mathlib.Core.Bool.{Bool}
use mathlib.Core.List.{List, []}
use Prim.Native.Nat.{ℕ, ◌<◌}
use lib.ListN.{length}
use Rattle.circuit.specs.Literals.{Lit, Assignment, lit_true}
use Rattle.circuit.specs.Circuits.{Circuit, gates, out}
use Rattle.circuit.specs.Statements.{Meets, number, SumExact, DifferenceExact, ProductExact, ExpansionExact, ChoiceExact, GreaterExact, EqualExact}
use Rattle.circuit.proofs.Assignments.{holds_of}
use Rattle.circuit.proofs.Meaning.{Sem, sound}
use Rattle.circuit.proofs.Reading.{Reads, sum_reads, difference_reads, product_reads, expansion_reads, choice_reads, greater_reads, equal_reads}

-- what a circuit without free bits means holds of its result
module _ {A : Type 0} {s : Assignment} {n : ℕ} {c : Circuit A} {Q : A → Type 0} where
  meant : Meets s n c → ((l : List Bool) → Sem s l c l Q) → Q (out n c)
  meant m f = (sound s n [] (f _) (holds_of s n (gates n c) m.clauses)).1

as_read : (s : Assignment) (ls : List Lit) → 0 < length ls → Reads s ls (number s ls)
as_read s ls h = record { some = h; reads = refl }

pub sum_exact : SumExact
sum_exact s n xs ys h k m = (meant m (λ l. sum_reads s m.truthful l (as_read s xs h) (as_read s ys k))).reads

pub difference_exact : DifferenceExact
difference_exact s n xs ys h k m = (meant m (λ l. difference_reads s m.truthful l (as_read s xs h) (as_read s ys k))).reads

pub product_exact : ProductExact
product_exact s n xs ys h k m = (meant m (λ l. product_reads s m.truthful l (as_read s xs h) (as_read s ys k))).reads

pub expansion_exact : ExpansionExact
expansion_exact s n factor xs h m = (meant m (λ l. expansion_reads s m.truthful l factor (as_read s xs h))).reads

pub choice_exact : ChoiceExact
choice_exact s n c xs ys h k m = (meant m (λ l. choice_reads s m.truthful l c (lit_true s c) refl (as_read s xs h) (as_read s ys k))).reads

pub greater_exact : GreaterExact
greater_exact s n xs ys h k m = meant m (λ l. greater_reads s m.truthful l (as_read s xs h) (as_read s ys k))

pub equal_exact : EqualExact
equal_exact s n xs ys h k m = meant m (λ l. equal_reads s m.truthful l (as_read s xs h) (as_read s ys k))
