-- `print::dimacs_page` meets its contract. Assumes nothing.
use native.Mathlib.Omega.{arith}
use Rattle.print.proofs.Pages.{left_all, left_step, left_full, left_end}
use Rattle.print.proofs.Pieces.{dimacs_many, dimacs_short}
use Rattle.print.proofs.dimacs_page.Goals as goal

pub loop-next-init : goal.loop-next-init
loop-next-init c = left_all _ _ _

pub returns-then-out-size-lt-PIECE : goal.returns-then-out-size-lt-PIECE
returns-then-out-size-lt-PIECE c =
    let s = c.args in
    let many = dimacs_many s.variables s.clauses s.slots.now in
    let done = left_full c.loop-next.invariant (omega (arith, many)) c.if-out-size-lt-PIECE.true in record { answer = done.answer; out = done.text }

pub loop-next-preserved : goal.loop-next-preserved
loop-next-preserved c =
    let s = c.args in
    let many = dimacs_many s.variables s.clauses s.slots.now in
    let short = dimacs_short s.variables s.clauses s.slots.now c.loop-next.next (omega arith) in
    left_step c.loop-next.invariant (omega (arith, many)) (omega arith) short c.put_dimacs_piece-size.ensures

pub returns : goal.returns
returns c =
    let s = c.args in
    let many = dimacs_many s.variables s.clauses s.slots.now in
    let done = left_end c.loop-next.invariant (omega (arith, many)) (λ h. omega (arith, many, c.loop-next.auto.next-end)) in
    record { answer = rw (c.max.ensures, ← many) done.answer; out = done.text }
