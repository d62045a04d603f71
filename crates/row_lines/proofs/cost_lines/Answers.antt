-- `row_lines::cost_lines` meets its contract. Assumes nothing.
use native.Mathlib.Omega.{arith}
use native.Mathlib.Numerals.{add-one}
use Prim.Native.Nat.{◌+◌, ◌<◌}
use lib.ListN.{length, get_or, drop, length-drop}
use lib.Seq.{drop-cons}
use Rattle.print.specs.Pieces.{pair_line}
use Rattle.sheet.specs.Texts.{cost_line}
use Rattle.row_lines.proofs.Lines.{left_all, left_step, left_none}
use Rattle.row_lines.proofs.Numbers.{zeros, cost_short}
use Rattle.row_lines.proofs.cost_lines.Goals as goal

pub loop-i-init : goal.loop-i-init
loop-i-init c = left_all cost_line _ _ c.requires

pub put_pair_line-at-requires : goal.put_pair_line-at-requires
put_pair_line-at-requires c = omega (arith, c.loop-i.invariant.room, length-drop c.loop-i.i c.args.records.now)

pub loop-i-preserved : goal.loop-i-preserved
unfolding pair_line
loop-i-preserved c =
    let records = c.args.records.now in
    let i = c.loop-i.i in
    let h : i < length records = omega arith in
    let row = get_or records i zeros in
    let here = rw (drop-cons records i zeros h, ← add-one) at c.loop-i.invariant in
    left_step cost_line row (drop (i + 1) records) here (cost_short i row) (rw c.from.ensures at c.put_pair_line-at.ensures)

pub returns : goal.returns
returns c =
    let records = c.args.records.now in
    let told = left_none cost_line (drop c.loop-i.i records) (omega (arith, length-drop c.loop-i.i records)) c.loop-i.invariant in
    record { answer = told.0; out = told.1 }
