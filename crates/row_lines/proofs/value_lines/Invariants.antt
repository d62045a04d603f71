-- `row_lines::value_lines` meets its contract. Assumes nothing.
use Rattle.std.specs.Iterator.Adapters.{enumerate_source, enumerate_count, zip_first, zip_second}
use Rattle.std.specs.Slice.Iter.{iter_rest}
use Rattle.sheet.specs.Texts.{value_line}
use Rattle.row_lines.specs.Numbers.{over_records}
use Rattle.row_lines.proofs.Lines.{Left}
use Rattle.row_lines.proofs.value_lines.Given as goal

abbrev pub invariant-loop-i : goal.invariant-loop-i
invariant-loop-i l =
    let rows = enumerate_source l.i-iterator in
    Left value_line (over_records l.records l.numerators) l.initial.out l.out (enumerate_count l.i-iterator) l.at (over_records (iter_rest (zip_first rows)) (iter_rest (zip_second rows)))
