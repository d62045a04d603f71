-- A table that is written is accepted, and the map and the slots have room. Assumes nothing.
use Rattle.std.specs.Prelude.{Ok}
use mathlib.Core.Path.{◌≡◌}
use mathlib.Core.List.{List}
use Prim.Native.Nat.{ℕ, ◌*◌, ◌≤◌}
use native.Mathlib.Omega.{arith}
use lib.ListN.{length}
use Rattle.sheet.specs.Acceptance.{Sheet}
use Rattle.sheet.specs.Calls.{writing}
use Rattle.sheet.proofs.Called.{writing_tells}
use Rattle.table.specs.Accepted.{Accepted}
use Rattle.table.proofs.Rowwise.{as_many}

pub record Fitted (sheet : Sheet) (map slots : ℕ) : Type 0 where
  pub accepted : Accepted sheet
  pub map_room : 48 * length sheet.rows ≤ map
  pub slot_room : sheet.counts.slots ≤ slots

pub fitted : (table : List ℕ) (records map slots : ℕ) {sheet : Sheet} → writing table records map slots ≡ Ok sheet → Fitted sheet map slots
fitted table records map slots {sheet} e =
    let t = writing_tells table records map slots sheet e in
    let a : Accepted sheet = record { table = table; is = t.is } in
    record { accepted = a; map_room = omega (arith, t.map, as_many a); slot_room = t.slots }
