-- `settings_text::print_claim` meets its contract. Assumes nothing.
use Rattle.std.specs.Prelude.{Ok}
use mathlib.Core.Path.{◌≡◌, sym, ap, ◌∙◌}
use mathlib.Core.List.{List}
use Prim.Native.Nat.{ℕ}
use native.Mathlib.Omega.{arith}
use borrow.Author.Rules.{rules}
use lib.ListN.{length, replicate, length-replicate}
use lib.Seq.{length-take-le}
use Rattle.print.proofs.Pieces.{piece_whole}
use Rattle.settings_text.specs.Replies.{claim_text}
use Rattle.settings_text.proofs.Taking.{taken_few}
use Rattle.settings_text.proofs.Claims.{refusal_printed, none_printed, model_told, model_printed}
use Rattle.settings_text.proofs.print_claim.Goals as goal

-- the model as it is lent
abbrev blank : List ℕ
blank = replicate 10000 0

blank-long : length blank ≡ 10000
blank-long = length-replicate {A = ℕ} 10000 0

pub slice_bounds-model-end : goal.slice_bounds-model-end
slice_bounds-model-end c =
    let long : length c.read_claim.new.model ≡ 10000 = search rules in
    omega (arith, taken_few c.requires.taken, long)

pub slice_bounds-print_model-end : goal.slice_bounds-print_model-end
slice_bounds-print_model-end c =
    let long : length c.read_claim.new.model ≡ 10000 = search rules in
    sym (length-take-le c.args.variables c.read_claim.new.model (omega (arith, taken_few c.requires.taken, long)))

pub print_model-requires-clause-told : goal.print_model-requires-clause-told
print_model-requires-clause-told c =
    let e = sym c.read_claim.ensures.answer ∙ c.in-Ok-true.is ∙ ap Ok c.in-Ok-true.field-0-test in
    model_told c.args.all c.args.table.now c.args.rest.now c.requires.taken blank blank-long e c.read_claim.ensures.model

pub returns-in-Ok-true : goal.returns-in-Ok-true
returns-in-Ok-true c =
    let e = sym c.read_claim.ensures.answer ∙ c.in-Ok-true.is ∙ ap Ok c.in-Ok-true.field-0-test in
    let text = model_printed c.args.all c.args.table.now c.args.rest.now c.requires.taken blank blank-long e c.read_claim.ensures.model in
    rw (← text) at c.print_model.ensures

pub returns-in-Ok-false : goal.returns-in-Ok-false
returns-in-Ok-false c =
    let e = sym c.read_claim.ensures.answer ∙ c.in-Ok-false.is ∙ ap Ok c.in-Ok-false.field-0-test in
    let line = none_printed c.args.all c.args.table.now c.args.rest.now c.requires.taken blank blank-long e in
    let whole = piece_whole (claim_text c.args.all c.args.table.now c.args.rest.now) c.args.out.now (omega (arith, c.requires.out_room)) in
    rw (← line, whole) at c.none_claimed_line.ensures

pub returns-in-Err : goal.returns-in-Err
returns-in-Err c =
    let line = refusal_printed c.args.all c.args.table.now c.args.rest.now c.requires.taken blank blank-long (sym c.read_claim.ensures.answer ∙ c.in-Err.is) in
    let whole = piece_whole (claim_text c.args.all c.args.table.now c.args.rest.now) c.args.out.now (omega (arith, c.requires.out_room)) in
    rw (← line, whole) at c.refusal_line.ensures
