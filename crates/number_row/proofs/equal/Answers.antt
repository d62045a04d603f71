-- `number_row::equal` meets its contract. Assumes nothing.
use mathlib.Core.List.{[], ◌∷◌}
use Rattle.circuit.specs.Numbers.{equal}
use Rattle.sheet.specs.Steps.{cell}
use Rattle.number_row.proofs.Bringing.{bring_room, next_room, brought_made}
use Rattle.number_row.proofs.equal.Goals as goal

pub bring-p-requires-clause-room : goal.bring-p-requires-clause-room
bring-p-requires-clause-room c = bring_room c.args.a.now c.args.b.now equal (λ l. cell (l ∷ []) 1) c.requires.room

pub equal-requires : goal.equal-requires
equal-requires c = next_room c.args.a.now c.args.b.now equal (λ l. cell (l ∷ []) 1) c.requires.room c.bring-p.ensures.makes

pub returns : goal.returns
returns c =
    let e = c.single.ensures in
    brought_made c.args.a.now c.args.b.now equal (λ l. cell (l ∷ []) 1) c.requires.room c.bring-p.ensures.makes c.equal.ensures e.value e.to
