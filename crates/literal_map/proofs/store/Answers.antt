-- `literal_map::store` meets its contract. Assumes nothing.
use Rattle.std.proofs.Common.{◌≡◌, ◌∙◌, ap, length, take, ◌≤◌, ◌*◌, take_all, arith}
use Rattle.sheet.specs.Steps.{page}
use Rattle.sheet.proofs.Pages.{page_long}
use Rattle.frame.proofs.Frames.{lent_part}
use Rattle.frame.proofs.Slots.{held}
use Rattle.literal_map.proofs.Copies.{page_more}
use Rattle.literal_map.proofs.store.Goals as goal

pub loop-i-preserved : goal.loop-i-preserved
loop-i-preserved c =
    let ls = c.literals-literal-items.result.now in
    let few : length ls ≤ 48 = rw c.literals-literal-items.ensures.literals c.literals-literal-items.ensures.few in
    rw (held c.slot.type_inv c.slot.ensures, c.loop-i.invariant) (page_more ls c.loop-i.i c.literal-item.result c.loop-i-test.true few c.literal-item.is)

pub returns : goal.returns
returns c =
    let ls = c.literals-literal-items.result.now in
    let e = c.literals-literal-items.ensures in
    let all : take c.loop-i.i ls ≡ c.args.number.now = take_all c.loop-i.i ls c.loop-i-test.false ∙ e.literals in
    lent_part (48 * c.args.row) _ (page c.args.number.now) c.args.map.now _ (omega (arith, page_long c.args.number.now e.few)) (c.copy_from_slice.ensures.after ∙ c.loop-i.invariant ∙ ap page all)
