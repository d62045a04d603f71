-- `row_lines::value_lines` meets its contract. Assumes nothing.
use mathlib.Core.Path.{◌≡◌}
use mathlib.Core.Logic.{inl, inr}
use native.Mathlib.Omega.{arith}
use lib.ListN.{length}
use mir.Syntax.{w64}
use mir.Val.{SFits}
use Rattle.std.proofs.Common.{rules}
use Rattle.std.proofs.lemmas.Int.{to_z-of_z}
use Rattle.std.specs.Iterator.Adapters.{enumerate_source, enumerate_count, zip_first, zip_second}
use Rattle.std.specs.Slice.Iter.{iter_rest}
use Rattle.sheet.specs.Values.{fraction}
use Rattle.sheet.specs.Texts.{value_line}
use Rattle.setting_lines.specs.Settings.{setting_line}
use Rattle.setting_lines.proofs.Rows.{length_setting}
use Rattle.row_lines.specs.Numbers.{over_records}
use Rattle.row_lines.proofs.Lines.{left_all, left_step, left_none}
use Rattle.row_lines.proofs.Numbers.{numbers_few, no_records, no_numbers}
use Rattle.row_lines.proofs.value_lines.Goals as goal

pub loop-i-init : goal.loop-i-init
loop-i-init c =
    let few = numbers_few c.args.records.now c.args.numerators.now in
    let all = left_all value_line (over_records c.args.records.now c.args.numerators.now) c.args.out.now (omega (arith, few, c.requires)) in
    grind arith

pub put_setting_line-at-requires : goal.put_setting_line-at-requires
unfolding over_records
put_setting_line-at-requires c =
    let steps = c.in-Some.ensures.steps in
    let room = rw (steps.0.0, steps.0.1) at c.loop-i.invariant.room in
    omega (arith, room)

pub loop-i-preserved : goal.loop-i-preserved
unfolding over_records setting_line
loop-i-preserved c =
    let steps = c.in-Some.ensures.steps in
    let n = c.in-Some.numerator.now in
    let d = c.in-Some.record.now.denominator in
    let here = rw (steps.0.0, steps.0.1) at c.loop-i.invariant in
    let fits : SFits w64 n = search rules in
    let put = rw (steps.1, to_z-of_z w64 n fits, c.from-denominator.ensures) at c.put_setting_line-at.ensures in
    rw steps.2 (left_step value_line (fraction n d) _ here (length_setting (enumerate_count c.loop-i.i-iterator) n d) put)

pub returns : goal.returns
returns c =
    let rows = enumerate_source c.loop-i.i-iterator in
    let none : length (over_records (iter_rest (zip_first rows)) (iter_rest (zip_second rows))) ≡ 0 = elim c.in-None.ensures.steps.0 [
      | inl h ↦ no_records _ _ h.1.0
      | inr h ↦ no_numbers _ _ h.1.0
    ] in
    let told = left_none value_line _ none c.loop-i.invariant in
    record { answer = told.0; out = told.1 }
