-- `number_row::greater` meets its contract. Assumes nothing.
use mathlib.Core.List.{[], ◌∷◌}
use Rattle.circuit.specs.Numbers.{greater}
use Rattle.sheet.specs.Steps.{cell}
use Rattle.number_row.proofs.Bringing.{bring_room, next_room, brought_made}
use Rattle.number_row.proofs.greater.Goals as goal

pub bring-p-requires-clause-room : goal.bring-p-requires-clause-room
bring-p-requires-clause-room c = bring_room c.args.a.now c.args.b.now greater (λ l. cell (l ∷ []) 1) c.requires.room

pub greater-requires : goal.greater-requires
greater-requires c = next_room c.args.a.now c.args.b.now greater (λ l. cell (l ∷ []) 1) c.requires.room c.bring-p.ensures.makes

pub returns : goal.returns
returns c =
    let e = c.single.ensures in
    brought_made c.args.a.now c.args.b.now greater (λ l. cell (l ∷ []) 1) c.requires.room c.bring-p.ensures.makes c.greater.ensures e.value e.to
