-- `fordrambler::decode` meets its contract. Assumes nothing.
use mathlib.Core.Path.{sym, ap, ◌∙◌}
use native.Mathlib.Omega.{arith}
use lib.ListN.{length}
use Rattle.std.proofs.lemmas.Result.{err_from_is_err_and}
use Rattle.decode.specs.Tried.{sheet_tried, outcome_of, unless_false}
use Rattle.fordrambler.proofs.Fits.{decodable_fits}
use Rattle.fordrambler.proofs.Leaving.{refused_says, done_says, records_kept, records_filled}
use Rattle.fordrambler.proofs.decode.Goals as goal

pub returns-in_err-tried : goal.returns-in_err-tried
returns-in_err-tried c =
    let p = err_from_is_err_and c.from_residual.result c.from_residual.ensures.1 in
    let d = c.decode_core.ensures in
    let w = c.in_err-tried.was in
    let e = sym d.sheet ∙ ap sheet_tried w in
    let f = sym d.answer ∙ ap outcome_of w in
    rw (p.1, p.2) (record { says = refused_says f; records = records_kept c.args.records.now e; map = d.map; slots = d.slots; values = d.values })

pub fill-requires : goal.fill-requires
fill-requires c =
    let e = sym c.decode_core.ensures.sheet ∙ ap sheet_tried c.in_ok-tried.was in
    omega (arith, ap length c.records.ensures.records, decodable_fits c.args.table.now (length c.args.records.now) (length c.args.map.now) (length c.args.slots.now) c.args.model.now (length c.args.values.now) e)

pub returns-in-Some : goal.returns-in-Some
returns-in-Some c =
    let d = c.decode_core.ensures in
    let e = sym d.sheet ∙ ap sheet_tried c.in_ok-tried.was in
    let f = sym d.answer ∙ ap outcome_of c.in_ok-tried.was ∙ ap (λ k. unless_false k c.in_ok-tried.tried.sheet) c.in-Some.is in
    rw c.at.ensures (record { says = refused_says f; records = rw (c.fill.ensures, c.records.ensures.records) (records_filled c.args.records.now e); map = d.map; slots = d.slots; values = d.values })

pub returns-in-None : goal.returns-in-None
returns-in-None c =
    let d = c.decode_core.ensures in
    let e = sym d.sheet ∙ ap sheet_tried c.in_ok-tried.was in
    let f = sym d.answer ∙ ap outcome_of c.in_ok-tried.was ∙ ap (λ k. unless_false k c.in_ok-tried.tried.sheet) c.in-None.is in
    record { says = done_says f; records = rw (c.fill.ensures, c.records.ensures.records) (records_filled c.args.records.now e); map = d.map; slots = d.slots; values = d.values }
