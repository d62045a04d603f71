-- `settings_text::print_whole` meets its contract. Assumes nothing.
use mathlib.Core.Path.{◌≡◌, sym, ◌∙◌}
use mathlib.Core.Bool.{true}
use mathlib.Core.List.{List}
use Prim.Native.Nat.{ℕ, ◌*◌}
use native.Mathlib.Omega.{arith}
use borrow.Author.Rules.{rules}
use lib.ListN.{length, replicate, length-replicate}
use lib.Seq.{length-take-le}
use Rattle.frame.proofs.Frames.{rest_all}
use Rattle.sheet.specs.Programs.{reply}
use Rattle.print.proofs.Pieces.{piece_whole}
use Rattle.program.proofs.Tables.{found_few, found_table}
use Rattle.settings_text.specs.Replies.{told_by}
use Rattle.settings_text.proofs.Behind.{lines_printed, behind_within, found_printed}
use Rattle.settings_text.proofs.print_whole.Goals as goal

-- the table as it is lent
abbrev blank : List ℕ
blank = replicate 2048 0

blank-long : length blank ≡ 2048
blank-long = length-replicate {A = ℕ} 2048 0

pub slice_bounds-table-end : goal.slice_bounds-table-end
slice_bounds-table-end c =
    let few = found_few true c.args.text.now blank blank-long c.in-Ok.found (sym c.read_lines_until_empty.ensures.answer ∙ c.in-Ok.is) in
    let long : length c.read_lines_until_empty.new.table ≡ 2048 = search rules in
    omega (arith, few, long)

pub slice_bounds-print_answer-end : goal.slice_bounds-print_answer-end
slice_bounds-print_answer-end c =
    let few = found_few true c.args.text.now blank blank-long c.in-Ok.found (sym c.read_lines_until_empty.ensures.answer ∙ c.in-Ok.is) in
    let long : length c.read_lines_until_empty.new.table ≡ 2048 = search rules in
    sym (length-take-le (8 * c.in-Ok.found.rows) c.read_lines_until_empty.new.table (omega (arith, few, long)))

pub slice_bounds-print_answer-count : goal.slice_bounds-print_answer-count
slice_bounds-print_answer-count c = behind_within c.args.all c.args.text.now blank blank-long c.in-Ok.found (sym c.read_lines_until_empty.ensures.answer ∙ c.in-Ok.is)

pub slice_bounds-print_answer-start : goal.slice_bounds-print_answer-start
slice_bounds-print_answer-start c = behind_within c.args.all c.args.text.now blank blank-long c.in-Ok.found (sym c.read_lines_until_empty.ensures.answer ∙ c.in-Ok.is)

pub returns-in-Ok : goal.returns-in-Ok
returns-in-Ok c =
    let text = c.args.text.now in
    let found = c.in-Ok.found in
    let e = sym c.read_lines_until_empty.ensures.answer ∙ c.in-Ok.is in
    rw (found_table true text blank blank-long found e c.read_lines_until_empty.ensures.table, rest_all found.rest text, ← found_printed c.args.all text blank blank-long found e) at c.print_answer.ensures

pub returns-in-Err : goal.returns-in-Err
returns-in-Err c =
    let line = lines_printed c.args.all c.args.text.now blank blank-long (sym c.read_lines_until_empty.ensures.answer ∙ c.in-Err.is) in
    let whole = piece_whole (reply (told_by c.args.all) c.args.text.now) c.args.out.now (omega (arith, c.requires)) in
    rw (← line, whole) at c.refusal_line.ensures
