-- What gates leave in the slots, from a place and a variable on. Assumes nothing.
use Rattle.std.specs.Prelude.{◌≡◌, List, ℕ, ◌+◌, ◌≤◌, ◌<◌, length, ℤ}
use Rattle.circuit.specs.Literals.{slots_of}
use Rattle.circuit.specs.Gates.{Gate}
use Rattle.circuit.specs.Circuits.{Circuit, gates, out, clauses_from}
use Rattle.frame.specs.Frame.{over}
use Rattle.frame.specs.declared.Cursor.{Cursor}
use Rattle.frame.specs.declared.Made.{Made}

-- the slots of gates, of which the first makes variable n + 1
unfoldable pub written : ℕ → List Gate → List ℤ
written n gs = slots_of (clauses_from n gs)

-- from the cursor on there are slots for the gates, and numbers for their variables
pub record Room (from : Cursor) (gs : List Gate) (slots : List ℤ) : Type 0 where
  pub place : from.at + length (written from.next gs) ≤ length slots
  pub number : from.next + length gs < 2147483648

-- the gates are written, up to the cursor `to`
pub record Wrote (from : Cursor) (gs : List Gate) (before after : List ℤ) (to : Cursor) : Type 0 where
  pub slots : after ≡ over from.at (written from.next gs) before
  pub place : to.at ≡ from.at + length (written from.next gs)
  pub number : to.next ≡ from.next + length gs

module _ {A : Type 0} where
  -- there is room for a circuit
  abbrev pub RoomFor : Cursor → Circuit A → List ℤ → Type 0
  RoomFor from c slots = Room from (gates from.next c) slots

  -- it is written, and its result is what was made
  pub record Makes (from : Cursor) (c : Circuit A) (before after : List ℤ) (m : Made A) : Type 0 where
    pub wrote : Wrote from (gates from.next c) before after m.to
    pub value : m.value ≡ out from.next c
