-- What the writer of a row leaves and answers. Assumes nothing.
use Rattle.std.specs.Prelude.{◌≡◌, List, ℤ}
use Rattle.circuit.specs.Literals.{Lit}
use Rattle.circuit.specs.Circuits.{Circuit, gates, out}
use Rattle.sheet.specs.Steps.{Cell}
use Rattle.frame.specs.declared.Cursor.{Cursor}
use Rattle.frame.specs.declared.Made.{Made}
use Rattle.frame.specs.Written.{Wrote}

-- the gates of a row's circuit are written, and its literals answered
pub record RowMade (from : Cursor) (c : Circuit Cell) (before after : List ℤ) (m : Made (List Lit)) : Type 0 where
  pub wrote : Wrote from (gates from.next c) before after m.to
  pub literals : m.value ≡ (out from.next c).literals

-- a circuit that writes nothing, whatever the slots
abbrev pub RowKnown : (from : Cursor) → Circuit Cell → Made (List Lit) → Type 0
RowKnown from c m = (slots : List ℤ) → RowMade from c slots slots m
