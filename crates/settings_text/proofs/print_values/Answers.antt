-- `settings_text::print_values` meets its contract. Assumes nothing.
use mathlib.Core.Path.{ap}
use mathlib.Core.List.{List}
use native.Mathlib.Omega.{arith}
use lib.IntN.{ℤ, pos}
use lib.ListN.{length, take, replicate}
use Rattle.table.proofs.Rowwise.{few_rows, as_many}
use Rattle.row_lines.proofs.Numbers.{numbers_few}
use Rattle.settings_text.proofs.Values.{numerators_are, lines_over}
use Rattle.settings_text.proofs.print_values.Goals as goal

-- the results as they are lent
abbrev blank : List ℤ
blank = replicate 256 (pos 0)

pub fill-requires-clause-room : goal.fill-requires-clause-room
fill-requires-clause-room c = few_rows c.requires.accepted

pub value_lines-requires : goal.value_lines-requires
value_lines-requires c =
    let few = numbers_few c.records.result.now (take (length c.rows.result.now) c.fill.new.results) in
    omega (arith, few, few_rows c.requires.accepted, as_many c.requires.accepted, ap length c.records.ensures.records, c.requires.out_room)

pub returns : goal.returns
returns c =
    let a = c.requires.accepted in
    let h = c.requires.chosen in
    rw (c.rows.ensures.rows, c.records.ensures.records, numerators_are a h blank c.fill.ensures, lines_over a h) at c.value_lines.ensures
