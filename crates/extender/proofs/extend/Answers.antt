-- `extender::extend` meets its contract. Assumes nothing.
use Rattle.std.proofs.Common.{rules}
use Rattle.std.proofs.lemmas.Result.{err_from_is_err_and}
use mathlib.Core.Path.{refl, sym}
use lib.IntN.{pos}
use lib.ListN.{replicate}
use Rattle.table.proofs.Lent.{read_into, read_refused}
use Rattle.extender.proofs.Extending.{not_chosen, chosen, too_short, extended}
use Rattle.extender.proofs.extend.Goals as goal

pub fill-requires-clause-chosen : goal.fill-requires-clause-chosen
fill-requires-clause-chosen c = chosen c.args.table.now c.args.values.now (sym (read_into c.read_chosen.ensures.answer c.in_ok-read_chosen.was))

pub extend_rows-requires-clause-chosen : goal.extend_rows-requires-clause-chosen
extend_rows-requires-clause-chosen c = chosen c.args.table.now c.args.values.now (sym (read_into c.read_chosen.ensures.answer c.in_ok-read_chosen.was))

pub returns-in_err-read_chosen : goal.returns-in_err-read_chosen
returns-in_err-read_chosen c =
    let p = err_from_is_err_and c.from_residual.result c.from_residual.ensures.1 in
    rw (p.1, p.2) (not_chosen c.args.table.now c.args.values.now (sym (read_refused c.read_chosen.new.sheet c.read_chosen.ensures.answer c.in_err-read_chosen.was)))

pub returns-then-model-variables : goal.returns-then-model-variables
returns-then-model-variables c =
    rw (c.at.ensures, c.counts-variables.ensures) (too_short c.args.table.now c.args.values.now (sym (read_into c.read_chosen.ensures.answer c.in_ok-read_chosen.was)) (rw c.counts-variables.ensures at c.if-model-variables.true))

pub returns : goal.returns
returns c =
    extended c.args.table.now c.args.values.now (sym (read_into c.read_chosen.ensures.answer c.in_ok-read_chosen.was)) (replicate 256 (pos 0)) c.fill.ensures (rw c.counts-variables.ensures at c.if-model-variables.false) (search rules) (rw c.rows-rows.ensures.rows refl)
