-- `print::put_dimacs_piece` meets its contract. Assumes nothing.
use Rattle.std.proofs.lemmas.Int.{to_z-of_z}
use native.Mathlib.Omega.{arith}
use Rattle.print.proofs.Pieces.{dimacs_first, dimacs-slot}
use Rattle.print.proofs.put_dimacs_piece.Goals as goal

pub returns-then-next-eq0 : goal.returns-then-next-eq0
returns-then-next-eq0 c =
    rw (dimacs_first c.args.variables c.args.clauses c.args.slots.now c.args.next c.if-next-eq0.true)
    (rw (c.from.ensures, c.from-then-next-eq0.ensures) at c.put_pair_line.ensures)

pub returns : goal.returns
returns c =
    rw (dimacs-slot c.args.variables c.args.clauses c.args.slots.now c.args.next c.if-next-eq0.false c.requires.slots_room)
    (grind (arith, to_z-of_z))
