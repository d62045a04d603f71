-- `product::add_row` meets its contract. Assumes nothing.
use lib.ListN.{length}
use Rattle.circuit.specs.Literals.{falsity}
use Rattle.circuit.specs.Numbers.{adder, ands}
use Rattle.frame.proofs.Writing.{bind_first, bind_next, bind_makes}
use Rattle.product.proofs.add_row.Goals as goal

pub and_row-row-requires-clause-room : goal.and_row-row-requires-clause-room
and_row-row-requires-clause-room c = bind_first (ands (length c.args.total.now) c.args.x.now c.args.bit) (λ row. adder falsity c.args.total.now row) c.requires.room

pub add-requires-clause-room : goal.add-requires-clause-room
add-requires-clause-room c =
    rw c.literals.ensures.literals
    (bind_next (ands (length c.args.total.now) c.args.x.now c.args.bit) (λ row. adder falsity c.args.total.now row) c.requires.room c.and_row-row.ensures)

pub returns : goal.returns
returns c =
    let made = rw c.literals.ensures.literals at c.add.ensures in
    bind_makes (ands (length c.args.total.now) c.args.x.now c.args.bit) (λ row. adder falsity c.args.total.now row) c.requires.room c.and_row-row.ensures made
