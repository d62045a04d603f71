-- `number_row::difference` meets its contract. Assumes nothing.
use mathlib.Core.Path.{refl}
use Rattle.circuit.specs.Numbers.{difference}
use Rattle.sheet.specs.Steps.{cell, least}
use Rattle.literal_map.specs.Cells.{cell_of}
use Rattle.number_row.proofs.Bringing.{bring_room, next_room, brought_made}
use Rattle.number_row.proofs.difference.Goals as goal

pub bring-p-requires-clause-room : goal.bring-p-requires-clause-room
bring-p-requires-clause-room c =
    let a = c.args.a.now in
    let b = c.args.b.now in
    bring_room a b difference (λ ls. cell ls (least (cell_of a) (cell_of b))) c.requires.room

pub difference-requires-clause-room : goal.difference-requires-clause-room
difference-requires-clause-room c =
    let a = c.args.a.now in
    let b = c.args.b.now in
    next_room a b difference (λ ls. cell ls (least (cell_of a) (cell_of b))) c.requires.room c.bring-p.ensures.makes

pub returns : goal.returns
returns c =
    let a = c.args.a.now in
    let b = c.args.b.now in
    brought_made a b difference (λ ls. cell ls (least (cell_of a) (cell_of b))) c.requires.room c.bring-p.ensures.makes c.difference.ensures refl refl
