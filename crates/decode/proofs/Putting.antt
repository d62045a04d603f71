-- The settings written row by row: what the loop knows, a row more, and the end. Assumes nothing.
use mathlib.Core.Path.{◌≡◌, sym, ap, ◌∙◌}
use mathlib.Core.Bool.{Bool, true, false}
use mathlib.Core.List.{List, [], ◌∷◌, ◌++◌}
use Prim.Native.Nat.{ℕ, ◌+◌, ◌*◌, ◌≤◌, ◌<◌}
use native.Mathlib.Omega.{arith}
use lib.IntN.{ℤ}
use lib.ListN.{length, get_or, drop, set, length-set}
use Rattle.std.proofs.lemmas.List.{drop_all}
use Rattle.whole.specs.Tests.{if◌then◌otherwise◌}
use Rattle.sheet.specs.declared.Fields.{Fields}
use Rattle.sheet.specs.declared.Record.{Record}
use Rattle.sheet.specs.Rows.{uses, is_unknown}
use Rattle.sheet.specs.Values.{Value, numerator, unknowns}
use Rattle.sheet.specs.Acceptance.{record_at, Sheet}
use Rattle.sheet.specs.Steps.{cells, read_each, read_rows, of_unknowns, settings}
use Rattle.sheet.specs.Calls.{assigned, settings_of, unknown_count}
use Rattle.frame.specs.Frame.{front, over}
use Rattle.frame.proofs.Frames.{over_none, over_zero, over-set}
use Rattle.table.proofs.Rowwise.{as_many, own_record, no_fields, zeros}
use Rattle.bits.specs.Readings.{Page}
use Rattle.decode.specs.Written.{Written}
use Rattle.decode.proofs.Rows.{settings_from, read_of, page_of, row_more}

-- no more settings than unknowns
few_settings : (fs : List Fields) (vs : List Value) → length (of_unknowns fs vs) ≤ length (unknowns fs)
few_settings [] vs = omega arith
few_settings (f ∷ fs) [] = omega arith
few_settings (f ∷ fs) (v ∷ vs) = by (is_unknown (uses f.kind)) (few_settings fs vs)
  where
    by : (b : Bool) → length (of_unknowns fs vs) ≤ length (unknowns fs)
        → length (if b then numerator v ∷ of_unknowns fs vs otherwise of_unknowns fs vs) ≤ length (if b then f ∷ unknowns fs otherwise unknowns fs)
    by true h = omega arith
    by false h = h

-- r rows are done, and n settings written
pub record Putting (sheet : Sheet) (model : List ℕ) (values₀ values : List ℤ) (n r : ℕ) : Type 0 where
  pub room : n + length (settings_from sheet model r) ≤ length values
  pub left : over n (settings_from sheet model r) values ≡ front (settings_of model sheet) values₀

pub putting_none : (sheet : Sheet) (model : List ℕ) (values : List ℤ) → unknown_count sheet ≤ length values → Putting sheet model values values 0 0
unfolding settings read_rows
putting_none sheet model values fits = record {
  room = omega (arith, few_settings sheet.rows (read_each (assigned model) sheet.records (cells sheet.rows)));
  left = over_zero (settings_of model sheet) values;
}

module _ {sheet : Sheet} {model : List ℕ} {values₀ values : List ℤ} {n r : ℕ} (p : Putting sheet model values₀ values n r) where
  pub putting_end : length sheet.rows ≤ r → values ≡ front (settings_of model sheet) values₀
  putting_end h =
      sym (over_none n values) ∙ ap (λ (fs : List Fields). over n (of_unknowns fs (read_each (assigned model) (drop r sheet.records) (drop r (cells sheet.rows)))) values) (sym (drop_all r sheet.rows h)) ∙ p.left

  -- row r is next: it is f, and `own` its record
  module _ {map : List ℤ} (written : Written sheet map model) (h : r < length sheet.rows) {f : Fields} (e : f ≡ get_or sheet.rows r no_fields) {own : Record} (g : own ≡ get_or sheet.records r zeros) where
    own_is : own ≡ record_at sheet.records r
    own_is = g ∙ own_record sheet.records r zeros (omega (arith, h, as_many written.accepted))

    more : (b : Bool) → is_unknown (uses f.kind) ≡ b → settings_from sheet model r ≡ (if b then read_of own r map model ∷ [] otherwise []) ++ settings_from sheet model (r + 1)
    more b u = rw own_is (row_more written r h b (rw e at u))

    pub putting_page : Page (length model) own (drop (48 * r) map)
    putting_page = rw own_is (page_of written r h)

    pub putting_passed : is_unknown (uses f.kind) ≡ false → Putting sheet model values₀ values n (r + 1)
    putting_passed u = record { room = rw (more false u) at p.room; left = rw (more false u) at p.left }

    module _ (u : is_unknown (uses f.kind) ≡ true) where
      pub putting_room : n < length values
      putting_room = omega (arith, p.room, ap length (more true u))

      pub putting_more : Putting sheet model values₀ (set values n (read_of own r map model)) (n + 1) (r + 1)
      putting_more = record {
        room = rw length-set (omega (arith, p.room, ap length (more true u)));
        left = over-set n (read_of own r map model) (settings_from sheet model (r + 1)) values putting_room ∙ rw (more true u) at p.left;
      }
