-- A sheet as the code holds it: rows and records in arrays, the first so many of each; what stands for no row is behind them. Assumes
-- nothing.
use mathlib.Core.Path.{sym, ap, subst, ◌∙◌}
use lib.ListN.{take-append-drop}
use lib.Seq.{length-take-le}
use Rattle.std.specs.Prelude.{◌≡◌, List, ◌++◌, ℕ, ◌-◌, ◌≤◌, length, take, drop, replicate}
use Rattle.sheet.specs.declared.Kind.TheVariants.{BooleanConstant}
use Rattle.sheet.specs.declared.Fields.{Fields}
use Rattle.sheet.specs.Acceptance.{Sheet, missing}
use Rattle.table.specs.declared.held.Sheet.TheInside.{Inside}

abbrev pub no_row : Fields
no_row = record { kind = BooleanConstant; p = 0; x = 0; y = 0; z = 0 }

abbrev pub held : Inside → Sheet
held a = record { rows = take a.count a.rows; records = take a.count a.records; counts = a.counts }

pub record IsHeld (a : Inside) : Type 0 where
  pub few : a.count ≤ 256
  pub rows : length a.rows ≡ 256
  pub records : length a.records ≡ 256
  pub rows_behind : drop a.count a.rows ≡ replicate (256 - a.count) no_row
  pub records_behind : drop a.count a.records ≡ replicate (256 - a.count) missing

abbrev pub in_places : Sheet → Inside
in_places sheet = record {
  count = length sheet.rows;
  rows = sheet.rows ++ replicate (256 - length sheet.rows) no_row;
  records = sheet.records ++ replicate (256 - length sheet.records) missing;
  counts = sheet.counts;
}

module _ {A : Type 0} (n : ℕ) (l : List A) (none : A) (few : n ≤ 256) (long : length l ≡ 256) where
  pub taken : length (take n l) ≡ n
  taken = length-take-le n l (subst (λ (k : ℕ). n ≤ k) (sym long) few)

  whole : drop n l ≡ replicate (256 - n) none → take n l ++ replicate (256 - length (take n l)) none ≡ l
  whole behind =
      ap (λ (k : ℕ). take n l ++ replicate (256 - k) none) taken
      ∙ ap (λ (r : List A). take n l ++ r) (sym behind)
      ∙ take-append-drop n l

pub back : (a : Inside) → IsHeld a → in_places (held a) ≡ a
back a h = λ i. record {
  count = taken a.count a.rows no_row h.few h.rows i;
  rows = whole a.count a.rows no_row h.few h.rows h.rows_behind i;
  records = whole a.count a.records missing h.few h.records h.records_behind i;
  counts = a.counts;
}
