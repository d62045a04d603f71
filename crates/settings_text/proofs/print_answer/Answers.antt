-- `settings_text::print_answer` meets its contract. Assumes nothing.
use native.Mathlib.Omega.{arith}
use Rattle.table.proofs.Lent.{read_into, read_refused}
use Rattle.print.proofs.Pieces.{piece_whole}
use Rattle.settings_text.specs.Replies.{claim_text}
use Rattle.settings_text.proofs.Taking.{table_printed, table_taken}
use Rattle.settings_text.proofs.print_answer.Goals as goal

pub print_claim-requires-clause-taken : goal.print_claim-requires-clause-taken
print_claim-requires-clause-taken c = rw c.counts.ensures (table_taken c.args.table.now (read_into c.read_fitting.ensures.answer c.in-Ok.is))

pub returns-in-Err : goal.returns-in-Err
returns-in-Err c =
    let line = table_printed c.args.table.now c.args.all c.args.rest.now (read_refused c.read_fitting.new.sheet c.read_fitting.ensures.answer c.in-Err.is) in
    let whole = piece_whole (claim_text c.args.all c.args.table.now c.args.rest.now) c.args.out.now (omega (arith, c.requires)) in
    rw (← line, whole) at c.refusal_line.ensures
