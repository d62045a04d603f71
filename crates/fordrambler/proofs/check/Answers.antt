-- `fordrambler::check` meets its contract. Assumes nothing.
use mathlib.Core.Path.{ap}
use native.Mathlib.Omega.{arith}
use lib.ListN.{length}
use Rattle.std.proofs.lemmas.Result.{err_from_is_err_and}
use Rattle.table.proofs.Lent.{read_into, read_refused}
use Rattle.fordrambler.proofs.Fits.{checking_fits}
use Rattle.fordrambler.proofs.Leaving.{refused_says, done_says, records_kept, records_filled}
use Rattle.fordrambler.proofs.check.Goals as goal

pub returns-in_err-read_checked : goal.returns-in_err-read_checked
returns-in_err-read_checked c =
    let p = err_from_is_err_and c.from_residual.result c.from_residual.ensures.1 in
    let e = read_refused c.read_checked.new.sheet c.read_checked.ensures.answer c.in_err-read_checked.was in
    rw (p.1, p.2) (record { says = refused_says e; records = records_kept c.args.records.now e })

pub fill-requires : goal.fill-requires
fill-requires c = omega (arith, ap length c.records.ensures.records, checking_fits c.args.table.now (length c.args.records.now) (read_into c.read_checked.ensures.answer c.in_ok-read_checked.was))

pub returns : goal.returns
returns c =
    let e = read_into c.read_checked.ensures.answer c.in_ok-read_checked.was in
    record { says = done_says e; records = rw (c.fill.ensures, c.records.ensures.records) (records_filled c.args.records.now e) }
