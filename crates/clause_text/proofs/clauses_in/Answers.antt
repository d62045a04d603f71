-- `clause_text::clauses_in` meets its contract. Assumes nothing.
use mathlib.Core.Path.{◌≡◌, sym, ◌∙◌}
use mathlib.Core.Bool.{false}
use mathlib.Core.List.{List}
use Prim.Native.Nat.{ℕ, ◌*◌}
use native.Mathlib.Omega.{arith}
use borrow.Author.Rules.{rules}
use lib.ListN.{length, replicate, length-replicate}
use lib.Seq.{length-take-le}
use Rattle.sheet.specs.Calls.{sheet_slots}
use Rattle.table.proofs.Buffers.{left_refused}
use Rattle.program.proofs.Tables.{lines_refused, found_few, found_table, found_sheet}
use Rattle.clause_text.proofs.clauses_in.Goals as goal

-- the table as it is lent
abbrev blank : List ℕ
blank = replicate 2048 0

blank-long : length blank ≡ 2048
blank-long = length-replicate {A = ℕ} 2048 0

pub returns-in_err-found-clause-slots : goal.returns-in_err-found-clause-slots
returns-in_err-found-clause-slots c =
    left_refused sheet_slots c.args.slots.now (lines_refused false c.args.text.now blank blank-long (sym c.read_lines.ensures.answer ∙ c.in_err-found.was))

pub slice_bounds-table-end : goal.slice_bounds-table-end
slice_bounds-table-end c =
    let few = found_few false c.args.text.now blank blank-long c.in_ok-found.found (sym c.read_lines.ensures.answer ∙ c.in_ok-found.was) in
    let long : length c.read_lines.new.table ≡ 2048 = search rules in
    omega (arith, few, long)

pub slice_bounds-write_clauses-end : goal.slice_bounds-write_clauses-end
slice_bounds-write_clauses-end c =
    let few = found_few false c.args.text.now blank blank-long c.in_ok-found.found (sym c.read_lines.ensures.answer ∙ c.in_ok-found.was) in
    let long : length c.read_lines.new.table ≡ 2048 = search rules in
    sym (length-take-le (8 * c.in_ok-found.found.rows) c.read_lines.new.table (omega (arith, few, long)))

pub returns : goal.returns
returns c =
    let text = c.args.text.now in
    let found = c.in_ok-found.found in
    let e = sym c.read_lines.ensures.answer ∙ c.in_ok-found.was in
    rw (found_table false text blank blank-long found e c.read_lines.ensures.table, found_sheet false text blank blank-long found e) at c.write_clauses.ensures
