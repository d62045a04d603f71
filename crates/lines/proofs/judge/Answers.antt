-- `lines::judge` meets its contract. Assumes nothing.
use mathlib.Core.Path.{◌≡◌, sym, ap, ◌∙◌}
use mathlib.Core.Bool.{false, ◌&&◌}
use native.Mathlib.Omega.{arith}
use borrow.Author.Tests.{ne_eqb}
use lib.Dec.{eqb}
use lib.ListN.{length, length-drop}
use Prim.Native.Nat.{◌*◌, ◌-◌}
use Rattle.std.specs.Prelude.{Err}
use Rattle.frame.proofs.Frames.{rest_all}
use Rattle.lines.proofs.Laws.{begins_long, first_is, none_is, lines_ended, lines_full, lines_bad, lines_more, lines_none}
use Rattle.lines.proofs.judge.Goals.{else-blank-via-then-blank+else-first-eq10, else-blank-via-else-blank}
use Rattle.lines.proofs.judge.Goals as goal

pub returns-then-first-eq10 : goal.returns-then-first-eq10
returns-then-first-eq10 c =
    let n = c.loop-first.rows in
    let rest = c.loop-first.rest.now in
    let first = first_is rest c.in-Some.first.now c.in-Some.ensures.value in
    sym (lines_ended c.args.blank n _ rest first (256 - n) c.if-blank.true c.if-first-eq10.true) ∙ c.loop-first.invariant.left

pub returns-then-rows-ge-ROWS : goal.returns-then-rows-ge-ROWS
returns-then-rows-ge-ROWS c =
    let rest = c.loop-first.rest.now in
    let b = c.in-Some.first.now in
    let goes : (c.args.blank && eqb b 10) ≡ false = elim c.else-blank.branch [
      | else-blank-via-then-blank+else-first-eq10 w ↦ rw (w.if-blank.true, ne_eqb b 10 w.if-first-eq10.false)
      | else-blank-via-else-blank w ↦ rw w.if-blank.false
    ] in
    let full = lines_full c.args.blank c.loop-first.rows b rest (first_is rest b c.in-Some.ensures.value) goes c.if-rows-ge-ROWS.true in
    ap Err c.at.ensures ∙ sym full ∙ c.loop-first.invariant.left

pub returns-then-not-begins_line : goal.returns-then-not-begins_line
returns-then-not-begins_line c =
    let rest = c.loop-first.rest.now in
    let b = c.in-Some.first.now in
    let goes : (c.args.blank && eqb b 10) ≡ false = elim c.else-blank.branch [
      | else-blank-via-then-blank+else-first-eq10 w ↦ rw (w.if-blank.true, ne_eqb b 10 w.if-first-eq10.false)
      | else-blank-via-else-blank w ↦ rw w.if-blank.false
    ] in
    let bad = sym c.begins_line.ensures ∙ c.if-not-begins_line.true in
    let told = lines_bad c.args.blank c.loop-first.rows b rest (first_is rest b c.in-Some.ensures.value) goes (omega arith) bad in
    ap Err c.at-then-not-begins_line.ensures ∙ sym told ∙ c.loop-first.invariant.left

pub slice_bounds-rest-count : goal.slice_bounds-rest-count
slice_bounds-rest-count c = begins_long 16 c.loop-first.rest.now (sym c.begins_line.ensures ∙ c.if-not-begins_line.false)

pub slice_bounds-rest-start : goal.slice_bounds-rest-start
slice_bounds-rest-start c = begins_long 16 c.loop-first.rest.now (sym c.begins_line.ensures ∙ c.if-not-begins_line.false)

pub loop-first-preserved : goal.loop-first-preserved
loop-first-preserved c =
    let rest = c.loop-first.rest.now in
    let b = c.in-Some.first.now in
    let goes : (c.args.blank && eqb b 10) ≡ false = elim c.else-blank.branch [
      | else-blank-via-then-blank+else-first-eq10 w ↦ rw (w.if-blank.true, ne_eqb b 10 w.if-first-eq10.false)
      | else-blank-via-else-blank w ↦ rw w.if-blank.false
    ] in
    let good = sym c.begins_line.ensures ∙ c.if-not-begins_line.false in
    let more = lines_more c.args.blank c.loop-first.rows b rest (first_is rest b c.in-Some.ensures.value) goes (omega arith) good in
    rw (rest_all 17 rest) (record {
      few = omega arith;
      place = omega (arith, c.loop-first.invariant.place, length-drop 17 rest, begins_long 16 rest good);
      left = sym more ∙ c.loop-first.invariant.left;
    })

pub returns : goal.returns
returns c =
    let n = c.loop-first.rows in
    let none = none_is c.loop-first.rest.now c.in_default.ensures.value in
    let place : length c.args.text.now ≡ 17 * n = omega (arith, c.loop-first.invariant.place, ap length none) in
    rw place (sym (lines_none (256 - n) c.args.blank n) ∙ rw none at c.loop-first.invariant.left)
