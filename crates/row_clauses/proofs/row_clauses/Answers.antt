-- `row_clauses::row_clauses` meets its contract. Assumes nothing.
use mathlib.Core.Path.{sym, ◌∙◌}
use native.Mathlib.Nat.{add-sub_cancel_left}
use Rattle.row_clauses.proofs.Answers.{gives, gives_none}
use Rattle.row_clauses.proofs.row_clauses.Goals as goal

pub returns-in-Ok : goal.returns-in-Ok
returns-in-Ok c = rw add-sub_cancel_left (gives c.args.table.now c.args.slots.now c.args.row (sym c.find.ensures.answer ∙ c.in-Ok.is))

pub returns-in-Err : goal.returns-in-Err
returns-in-Err c = rw c.number.ensures (gives_none c.args.table.now c.args.slots.now c.args.row (sym c.find.ensures.answer ∙ c.in-Err.is))
