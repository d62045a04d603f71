-- `print::line_page` meets its contract. Assumes nothing.
use Rattle.print.proofs.Pieces.{not_printed, all_printed}
use Rattle.print.proofs.line_page.Goals as goal

pub returns-then-out-lt-PIECE : goal.returns-then-out-lt-PIECE
returns-then-out-lt-PIECE c =
    let told = not_printed c.args.line.now c.args.out.now c.if-out-lt-PIECE.true in
    record { answer = told.0; out = told.1 }

pub returns : goal.returns
returns c =
    let told = all_printed c.args.line.now c.args.out.now c.if-out-lt-PIECE.false c.put_text.ensures in
    record { answer = told.0; out = told.1 }
