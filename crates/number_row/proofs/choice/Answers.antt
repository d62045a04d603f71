-- `number_row::choice` meets its contract. Assumes nothing.
use mathlib.Core.Path.{refl}
use Rattle.circuit.specs.Numbers.{choice}
use Rattle.sheet.specs.Steps.{cell, lit, least}
use Rattle.literal_map.specs.Cells.{cell_of}
use Rattle.number_row.proofs.Bringing.{bring_room, next_room, brought_made}
use Rattle.number_row.proofs.choice.Goals as goal

pub bring-p-requires-clause-room : goal.bring-p-requires-clause-room
bring-p-requires-clause-room c =
    let x = c.args.b.now in
    let y = c.args.c.now in
    bring_room x y (choice (lit (cell_of c.args.a.now))) (λ ls. cell ls (least (cell_of x) (cell_of y))) c.requires.room

pub choice-requires : goal.choice-requires
choice-requires c =
    let x = c.args.b.now in
    let y = c.args.c.now in
    rw c.literal-condition.ensures (next_room x y (choice (lit (cell_of c.args.a.now))) (λ ls. cell ls (least (cell_of x) (cell_of y))) c.requires.room c.bring-p.ensures.makes)

pub returns : goal.returns
returns c =
    let x = c.args.b.now in
    let y = c.args.c.now in
    let made = rw c.literal-condition.ensures at c.choice.ensures in
    brought_made x y (choice (lit (cell_of c.args.a.now))) (λ ls. cell ls (least (cell_of x) (cell_of y))) c.requires.room c.bring-p.ensures.makes made refl refl
