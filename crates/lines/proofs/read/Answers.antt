-- `lines::read` meets its contract. Assumes nothing.
use mathlib.Core.Path.{sym, ◌∙◌}
use native.Mathlib.Omega.{arith}
use Rattle.std.proofs.Common.{rules}
use Rattle.lines.proofs.Laws.{lines_within}
use Rattle.lines.proofs.Answers.{too_short, lines_refused, lines_found}
use Rattle.lines.proofs.read.Goals as goal

pub returns-then-table-lt-ROOM : goal.returns-then-table-lt-ROOM
returns-then-table-lt-ROOM c =
    let s = c.args in
    let told = too_short s.blank s.text.now s.table.now c.if-table-lt-ROOM.true in
    record { answer = rw c.at.ensures told.0; table = told.1 }

pub returns-in_err-found : goal.returns-in_err-found
returns-in_err-found c =
    let s = c.args in
    let told = lines_refused s.blank s.text.now s.table.now c.if-table-lt-ROOM.false _ (sym c.in_err-found.was ∙ c.judge.ensures) in
    record { answer = rw (← told.0) (search rules); table = told.1 }

pub put_rows-requires : goal.put_rows-requires
put_rows-requires c =
    let (few, here) = lines_within 256 c.args.blank 0 c.args.text.now (sym c.judge.ensures ∙ c.in_ok-found.was) in
    record { table_room = omega (arith, few, c.if-table-lt-ROOM.false); text_room = omega (arith, here) }

pub returns : goal.returns
returns c =
    let s = c.args in
    let told = lines_found s.blank s.text.now s.table.now c.if-table-lt-ROOM.false c.in_ok-found.found c.put_rows.new.table (sym c.in_ok-found.was ∙ c.judge.ensures) c.put_rows.ensures in
    record { answer = told.0; table = told.1 }
