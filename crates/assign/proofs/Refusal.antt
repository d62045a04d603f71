-- What the first false one is for refusals 17 and 19; the slots that writing leaves are read back as the clauses. Assumes nothing.
use Rattle.std.proofs.Common.{◌≡◌, refl, sym, ap, ◌∙◌, Bool, true, false, List, [], ◌∷◌, ◌++◌, map, ℕ, ◌+◌, ltb, Ok, Option, Some, None, length, take, ℤ, pos, append_assoc, append-nil, arith}
use borrow.Author.Tests.{le-ltb, lt-ltb}
use lib.Seq.{take-append_seam}
use Rattle.circuit.specs.Literals.{plus, minus, Clause, slot, slots_of}
use Rattle.sheet.specs.declared.Reason.{Reason}
use Rattle.sheet.specs.Acceptance.{Outcome, refused}
use Rattle.sheet.specs.Calls.{false_at, refuse◌at◌if◌, refuse◌counting◌unless◌}
use Rattle.assign.specs.Clauses.{clauses_in, first_false_from}

-- a clause in slots is read back
ended : (c : Clause) (l : List ℤ) → clauses_in (map slot c ++ pos 0 ∷ l) ≡ c ∷ clauses_in l
ended [] l = refl
ended (plus i ∷ c) l = rw (ended c l)
ended (minus i ∷ c) l = rw (ended c l)

clauses_front : (cs : List Clause) (l : List ℤ) → clauses_in (slots_of cs ++ l) ≡ cs ++ clauses_in l
clauses_front [] l = refl
clauses_front (c ∷ cs) l = rw append_assoc (ended c (slots_of cs ++ l) ∙ ap (λ r. c ∷ r) (clauses_front cs l))

-- the slots that were written, of a buffer with a tail
pub clauses_written : (cs : List Clause) (slots rest : List ℤ) → slots ≡ slots_of cs ++ rest → clauses_in (take (length (slots_of cs)) slots) ≡ cs
clauses_written cs slots rest e = rw (e, take-append_seam (slots_of cs) rest) (sym (ap clauses_in (append-nil (slots_of cs))) ∙ clauses_front cs [] ∙ append-nil cs)

-- refused exactly if there is a first false one, and it is the place
abbrev pub refused_at : Reason → Option ℕ → Outcome (Unit {0})
refused_at reason None = Ok tt
refused_at reason (Some n) = refused reason n

pub counting_refuses : (reason : Reason) (n : ℕ) (bs : List Bool) → (refuse reason counting n unless bs) ≡ refused_at reason (first_false_from n bs)
counting_refuses reason n [] = rw (le-ltb n (n + 0) (omega arith))
counting_refuses reason n (true ∷ bs) = ap (λ k. refuse reason at false_at (n + 1) bs if ltb (false_at (n + 1) bs) k) (omega arith) ∙ counting_refuses reason (n + 1) bs
counting_refuses reason n (false ∷ bs) = rw (lt-ltb n (n + length (false ∷ bs)) (omega arith))
