-- `number_row::sum` meets its contract. Assumes nothing.
use mathlib.Core.Path.{refl}
use Rattle.circuit.specs.Numbers.{sum}
use Rattle.sheet.specs.Steps.{cell, least}
use Rattle.literal_map.specs.Cells.{cell_of}
use Rattle.number_row.proofs.Bringing.{bring_room, next_room, brought_made}
use Rattle.number_row.proofs.sum.Goals as goal

pub bring-p-requires-clause-room : goal.bring-p-requires-clause-room
bring-p-requires-clause-room c =
    let a = c.args.a.now in
    let b = c.args.b.now in
    bring_room a b sum (λ ls. cell ls (least (cell_of a) (cell_of b))) c.requires.room

pub sum-requires-clause-room : goal.sum-requires-clause-room
sum-requires-clause-room c =
    let a = c.args.a.now in
    let b = c.args.b.now in
    next_room a b sum (λ ls. cell ls (least (cell_of a) (cell_of b))) c.requires.room c.bring-p.ensures.makes

pub returns : goal.returns
returns c =
    let a = c.args.a.now in
    let b = c.args.b.now in
    brought_made a b sum (λ ls. cell ls (least (cell_of a) (cell_of b))) c.requires.room c.bring-p.ensures.makes c.sum.ensures refl refl
