-- `cost_text::cost_text` meets its contract. Assumes nothing.
use mathlib.Core.Path.{◌≡◌, sym, ◌∙◌}
use mathlib.Core.Bool.{false}
use mathlib.Core.List.{List}
use Prim.Native.Nat.{ℕ, ◌*◌}
use native.Mathlib.Omega.{arith}
use borrow.Author.Rules.{rules}
use lib.ListN.{length, replicate, length-replicate}
use lib.Seq.{length-take-le}
use Rattle.sheet.specs.Programs.{input_of, costs_program}
use Rattle.print.proofs.Pieces.{piece_whole}
use Rattle.program.proofs.Tables.{found_few, found_table}
use Rattle.cost_text.proofs.Output.{lines_printed, found_printed}
use Rattle.cost_text.proofs.cost_text.Goals as goal

-- the table as it is lent
abbrev blank : List ℕ
blank = replicate 2048 0

blank-long : length blank ≡ 2048
blank-long = length-replicate {A = ℕ} 2048 0

pub slice_bounds-table-end : goal.slice_bounds-table-end
slice_bounds-table-end c =
    let few = found_few false (input_of c.args.input.now) blank blank-long c.in-Ok.found (rw c.used.ensures at (sym c.read_lines.ensures.answer ∙ c.in-Ok.is)) in
    let long : length c.read_lines.new.table ≡ 2048 = search rules in
    omega (arith, few, long)

pub slice_bounds-print_costs-end : goal.slice_bounds-print_costs-end
slice_bounds-print_costs-end c =
    let few = found_few false (input_of c.args.input.now) blank blank-long c.in-Ok.found (rw c.used.ensures at (sym c.read_lines.ensures.answer ∙ c.in-Ok.is)) in
    let long : length c.read_lines.new.table ≡ 2048 = search rules in
    sym (length-take-le (8 * c.in-Ok.found.rows) c.read_lines.new.table (omega (arith, few, long)))

pub returns-in-Ok : goal.returns-in-Ok
returns-in-Ok c =
    let input = c.args.input.now in
    let found = c.in-Ok.found in
    let e = rw c.used.ensures at (sym c.read_lines.ensures.answer ∙ c.in-Ok.is) in
    let table = rw c.used.ensures at c.read_lines.ensures.table in
    rw (found_table false (input_of input) blank blank-long found e table, ← found_printed input blank blank-long found e) at c.print_costs.ensures

pub returns-in-Err : goal.returns-in-Err
returns-in-Err c =
    let line = lines_printed c.args.input.now blank blank-long (rw c.used.ensures at (sym c.read_lines.ensures.answer ∙ c.in-Err.is)) in
    let whole = piece_whole (costs_program c.args.input.now) c.args.out.now (omega (arith, c.requires)) in
    rw (← line, whole) at c.refusal_line.ensures
