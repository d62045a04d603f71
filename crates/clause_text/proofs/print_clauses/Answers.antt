-- `clause_text::print_clauses` meets its contract. Assumes nothing.
use mathlib.Core.Path.{sym}
use native.Mathlib.Omega.{arith}
use borrow.Author.Rules.{rules}
use lib.ListN.{length, take}
use lib.Seq.{length-take-le}
use Rattle.print.specs.Pieces.{dimacs_pieces}
use Rattle.print.proofs.Whole.{page_whole, dimacs_long}
use Rattle.clause_text.proofs.print_clauses.Goals as goal

pub returns : goal.returns
returns c =
    let k = c.args.counts in
    let slots = take k.slots c.args.slots.now in
    let long = dimacs_long k.variables k.clauses slots in
    let many = length-take-le k.slots c.args.slots.now c.requires.slots_room in
    let whole = page_whole (dimacs_pieces k.variables k.clauses slots) (length c.args.out.now) (omega (arith, long, many, c.requires.out_room)) in
    let d = c.dimacs_page-page.ensures in record { answer = rw d.answer (rw whole); out = rw whole at d.out }
