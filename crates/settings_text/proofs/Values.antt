-- Every row's exact value, from its numerator and its record's denominator. Assumes nothing.
use mathlib.Core.Path.{◌≡◌, sym, ap, ◌∙◌}
use mathlib.Core.List.{List, [], map, append-nil}
use lib.IntN.{ℤ}
use lib.ListN.{length, take, drop, length-map}
use lib.Seq.{take_at}
use Rattle.circuit.specs.Counting.{the_first}
use Rattle.sheet.specs.declared.Record.{Record}
use Rattle.sheet.specs.Values.{Value, numerator, row_values, Chosen}
use Rattle.sheet.specs.Acceptance.{Sheet}
use Rattle.sheet.specs.Texts.{value_lines}
use Rattle.sheet.proofs.Widths.{AllHold}
use Rattle.promise.proofs.Choices.{within_all}
use Rattle.promise.proofs.Fitting.{table_fits}
use Rattle.promise.proofs.Evaluated.{rows_many}
use Rattle.frame.specs.Frame.{front}
use Rattle.table.specs.Accepted.{Accepted}
use Rattle.table.proofs.Rowwise.{tells}
use Rattle.row_lines.specs.Numbers.{over_records}
use Rattle.row_lines.proofs.Numbers.{lines_are}

module _ {sheet : Sheet} {values : List ℤ} (a : Accepted sheet) (chosen : Chosen sheet.rows values) where
  abbrev vs : List Value
  vs = row_values sheet.rows values

  -- as many values as rows, each over its record's denominator
  pub numerators_many : length (map numerator vs) ≡ length sheet.rows
  numerators_many = length-map vs numerator ∙ rows_many sheet.rows values

  over_own : AllHold sheet.records vs
  unfolding row_values
  over_own = table_fits sheet.rows [] [] tt the_first sheet.records (tells a).total (tells a).passed values (within_all sheet.rows values chosen.within)

  -- what evaluating leaves at the front of the results
  pub numerators_are : (results₀ : List ℤ) {results : List ℤ} → results ≡ front (map numerator vs) results₀ → take (length sheet.rows) results ≡ map numerator vs
  unfolding front
  numerators_are results₀ f = rw f (take_at (map numerator vs) (drop (length (map numerator vs)) results₀) (length sheet.rows) numerators_many)

  -- the records' denominators are the values'
  pub lines_over : value_lines (over_records sheet.records (map numerator vs)) ≡ value_lines vs
  lines_over = ap (λ (rs : List Record). value_lines (over_records rs (map numerator vs))) (sym (append-nil sheet.records)) ∙ lines_are 0 sheet.records [] vs over_own
