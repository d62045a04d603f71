-- `settings_text::print_model` meets its contract. Assumes nothing.
use mathlib.Core.Path.{◌≡◌, sym, ap, ◌∙◌}
use Prim.Native.Nat.{◌≤◌}
use native.Mathlib.Omega.{arith}
use borrow.Author.Rules.{rules}
use lib.ListN.{length, take}
use lib.Seq.{length-take-le}
use Rattle.decode.specs.Tried.{sheet_tried, outcome_of, unless_false}
use Rattle.print.proofs.Pieces.{piece_whole}
use Rattle.print.proofs.Whole.{page_whole}
use Rattle.setting_lines.specs.Settings.{table_pieces}
use Rattle.settings_text.specs.Replies.{told_text}
use Rattle.settings_text.proofs.Settled.{accepted, decodes, told_of, clause_false, numerators_few, chosen, values_printed, settings_printed, pieces_short}
use Rattle.settings_text.proofs.print_model.Goals as goal

pub returns-in-Err : goal.returns-in-Err
returns-in-Err c = decodes c.args.all c.args.table.now c.args.model.now c.requires.told (sym c.decode_core.ensures.sheet ∙ ap sheet_tried c.in-Err.is)

pub returns-in-Some : goal.returns-in-Some
returns-in-Some c =
    let f = sym c.decode_core.ensures.answer ∙ ap outcome_of c.in-Ok.is ∙ ap (λ k. unless_false k c.in-Ok.tried.sheet) c.in-Some.is in
    let line = clause_false c.args.all c.args.table.now c.args.model.now c.requires.told f in
    let whole = piece_whole (told_text c.args.all c.args.table.now c.args.model.now) c.args.out.now (omega (arith, c.requires.out_room)) in
    rw (c.at.ensures, ← line, whole) at c.refusal_line-in-Some.ensures

-- no clause is false: the settings stand at the front of the values
pub slice_bounds-values-end : goal.slice_bounds-values-end
slice_bounds-values-end c =
    let t = told_of c.args.all c.args.table.now c.args.model.now c.requires.told (sym c.decode_core.ensures.sheet ∙ ap sheet_tried c.in-Ok.is) in
    let few : c.in-Ok.tried.sheet.counts.unknowns ≤ 256 = numerators_few c.args.all c.args.table.now c.args.model.now t in
    let long : length c.decode_core.new.values ≡ 256 = search rules in
    rw c.counts.ensures (omega (arith, few, long))

pub slice_bounds-settings-end : goal.slice_bounds-settings-end
slice_bounds-settings-end c =
    let t = told_of c.args.all c.args.table.now c.args.model.now c.requires.told (sym c.decode_core.ensures.sheet ∙ ap sheet_tried c.in-Ok.is) in
    let few : c.in-Ok.tried.sheet.counts.unknowns ≤ 256 = numerators_few c.args.all c.args.table.now c.args.model.now t in
    let long : length c.decode_core.new.values ≡ 256 = search rules in
    rw c.counts.ensures (sym (length-take-le _ c.decode_core.new.values (omega (arith, few, long))))

pub print_values-requires : goal.print_values-requires
print_values-requires c =
    let d = c.decode_core.ensures in
    let t = told_of c.args.all c.args.table.now c.args.model.now c.requires.told (sym d.sheet ∙ ap sheet_tried c.in-Ok.is) in
    let f = sym d.answer ∙ ap outcome_of c.in-Ok.is ∙ ap (λ k. unless_false k c.in-Ok.tried.sheet) c.in_default.is in
    let h = chosen c.args.all c.args.table.now c.args.model.now t f d.values in
    record { accepted = accepted c.args.all c.args.table.now c.args.model.now t; chosen = rw c.counts.ensures h; out_room = c.requires.out_room }

pub returns-then-all : goal.returns-then-all
returns-then-all c =
    let d = c.decode_core.ensures in
    let t = told_of c.args.all c.args.table.now c.args.model.now c.requires.told (sym d.sheet ∙ ap sheet_tried c.in-Ok.is) in
    let f = sym d.answer ∙ ap outcome_of c.in-Ok.is ∙ ap (λ k. unless_false k c.in-Ok.tried.sheet) c.in_default.is in
    let text = values_printed c.args.all c.args.table.now c.args.model.now t f d.values c.if-all.true in
    rw (c.counts.ensures, ← text) at c.print_values.ensures

pub returns-else-all : goal.returns-else-all
returns-else-all c =
    let d = c.decode_core.ensures in
    let table = c.args.table.now in
    let vs = take c.in-Ok.tried.sheet.counts.unknowns c.decode_core.new.values in
    let t = told_of c.args.all table c.args.model.now c.requires.told (sym d.sheet ∙ ap sheet_tried c.in-Ok.is) in
    let f = sym d.answer ∙ ap outcome_of c.in-Ok.is ∙ ap (λ k. unless_false k c.in-Ok.tried.sheet) c.in_default.is in
    let short = pieces_short c.args.all table c.args.model.now t vs in
    let whole = page_whole (table_pieces table vs) (length c.args.out.now) (omega (arith, short, c.requires.out_room)) in
    let text = settings_printed c.args.all table c.args.model.now t f d.values c.if-all.false in
    let p = rw c.counts.ensures at c.settings_page.ensures in
    record { answer = rw p.answer (rw (whole, text)); out = rw (whole, ← text) at p.out }
