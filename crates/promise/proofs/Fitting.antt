-- No row's exact value, nor any expanded numerator, needs more bits than acceptance gave it. Assumes nothing.
use mathlib.Core.Path.{◌≡◌, sym, ◌∙◌, ap, subst}
use mathlib.Core.List.{List, [], ◌∷◌, ◌++◌}
use Prim.Native.Nat.{ℕ, ◌<◌}
use lib.ListN.{length, get_or-append}
use lib.IntN.{ℤ}
use Rattle.circuit.specs.declared.Counts.{Counts}
use Rattle.circuit.specs.Counting.{◌⊕◌, the_first}
use Rattle.sheet.specs.declared.Fields.{Fields}
use Rattle.sheet.specs.declared.Record.{Record}
use Rattle.sheet.specs.Values.{Value, boolean, fraction, value_at, row_val, values_from, row_values}
use Rattle.sheet.specs.Acceptance.{missing, record_at, Sheet}
use Rattle.sheet.proofs.Accepted.{sort_at, Passed, passed_behind}
use Rattle.sheet.proofs.Widths.{Holds, AllHold, all_hold_snoc, hold_at, pair_fits, row_fits}
use Rattle.promise.specs.Promise.{brought_by, FitsRow, FitBoth, Wide}
use Rattle.promise.proofs.Brought.{Earlier, brought_earlier}
use Rattle.promise.proofs.Choices.{first, after, AllIn}

pub table_fits : (rows : List Fields) (rs : List Record) (vs : List Value) → AllHold rs vs → (so : Counts) (records : List Record) (total : Counts) → Passed rs so rows records total
    → (values : List ℤ) → AllIn rows values → AllHold records (values_from vs rows values)
table_fits [] rs vs h so records total p values a = subst (λ (r : List Record). AllHold r vs) p.0 h
table_fits (f ∷ rows) rs vs h so records total p values a =
    let v = row_val vs f (first values) in
    table_fits rows (rs ++ p.0 ∷ []) (vs ++ v ∷ []) (all_hold_snoc rs vs p.0 v h (row_fits rs vs h so.slots f p.0 p.1 p.2 (first values) a.0))
    (so ⊕ p.1) records total p.3 (after f values) a.1

-- the sort of an earlier row is that of the row among all
sort_at_lem : (earlier rest : List Record) (x s : ℕ) → x < length earlier → sort_at earlier x ≡ s → sort_at (earlier ++ rest) x ≡ s
sort_at_lem earlier rest x s h e = ap (λ (r : Record). r.sort) (get_or-append earlier rest missing x h) ∙ e

fits_row : (r : Record) (v : Value) → Holds r v → FitsRow r v
fits_row r (boolean b) h = tt
fits_row r (fraction n d) h = h.fits

module _ (earlier rest : List Record) (values : List Value) (h : AllHold (earlier ++ rest) values) where
  both : (x y : ℕ) → Earlier earlier x → Earlier earlier y → FitBoth (earlier ++ rest) values (x ∷ y ∷ [])
  both x y a b = pair_fits (earlier ++ rest) values h x y (sort_at_lem earlier rest x 1 a.before a.number) (sort_at_lem earlier rest y 1 b.before b.number)

pub all_wide : (sheet : Sheet) (total : Counts) → Passed [] the_first sheet.rows sheet.records total → (values : List ℤ) → AllIn sheet.rows values
    → (before : List Fields) (f : Fields) (behind : List Fields) → sheet.rows ≡ before ++ f ∷ behind → Wide sheet (row_values sheet.rows values) (length before) f
unfolding row_values
all_wide sheet total p values a before f behind e =
    let vs = row_values sheet.rows values in
    let h : AllHold sheet.records vs = table_fits sheet.rows [] [] tt the_first sheet.records total p values a in
    let q = passed_behind before f behind sheet.records total (subst (λ (rows : List Fields). Passed [] the_first rows sheet.records total) e p) in
    record {
      own = fits_row (record_at sheet.records (length before)) (value_at vs (length before)) (hold_at sheet.records vs h (length before));
      expanded = subst (λ (records : List Record). FitBoth records vs (brought_by f.kind f.x f.y f.z)) (sym q.front)
          (brought_earlier q.earlier (FitBoth (q.earlier ++ q.own ∷ q.rest) vs) tt (both q.earlier (q.own ∷ q.rest) vs (subst (λ (records : List Record). AllHold records vs) q.front h)) q.passes);
    }
