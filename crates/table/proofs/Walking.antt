-- The walk of a table: what is known when r of its rows have passed, one row on, and its end. Assumes nothing.
use Rattle.std.specs.Prelude.{Ok, Err}
use mathlib.Core.Path.{◌≡◌, refl, sym, ap, ◌∙◌}
use mathlib.Core.List.{List, [], ◌∷◌, ◌++◌, append_assoc, append-nil}
use Prim.Native.Nat.{ℕ, suc, ◌+◌, ◌*◌, ◌-◌, ◌≤◌, ◌<◌}
use native.Mathlib.Nat.{sub-zero}
use native.Mathlib.Omega.{arith}
use lib.ListN.{length, drop, length-append}
use lib.Seq.{drop-drop}
use Rattle.std.specs.List.{All}
use Rattle.std.proofs.lemmas.List.Elements.{All-push}
use Rattle.circuit.specs.Counting.{◌⊕◌, the_first, the_last}
use Rattle.sheet.specs.declared.Fields.{Fields}
use Rattle.sheet.specs.declared.Passed.{Passed}
use Rattle.sheet.specs.declared.Reason.{Reason}
use Rattle.sheet.specs.Rows.{rows_of}
use Rattle.sheet.specs.Acceptance.{judge, refused, Sheet, ending, walk, accept}
use Rattle.counting.specs.Bounds.{Below}
use Rattle.counting.proofs.Bounds.{plus_below}
use Rattle.row.specs.RowAt.{row_at}
use Rattle.judge.specs.Bounds.{InLimits}
use Rattle.table.specs.Bounds.{InBounds}
use Rattle.table.proofs.Lengths.{Whole}

-- r of the rows are in the sheet, and the walk of those that are left is acceptance
pub record Walking (table : List ℕ) (rows r : ℕ) (sheet : Sheet) : Type 0 where
  pub whole : Whole table rows
  pub as_many : length sheet.rows ≡ r
  pub records : length sheet.records ≡ r
  pub read : sheet.rows ++ rows_of (rows - r) (drop (8 * r) table) ≡ rows_of rows table
  pub left : walk table sheet.records sheet.counts (rows - r) (drop (8 * r) table) ≡ accept table
  pub limits : All InLimits sheet.records
  pub few : Below (2 + 170000 * r) sheet.counts

pub walking_none : {table : List ℕ} {rows : ℕ} → Whole table rows → Walking table rows 0 (record { rows = []; records = []; counts = the_first })
walking_none {rows = rows} whole = record {
  whole = whole;
  as_many = refl;
  records = refl;
  read = rw sub-zero;
  left = rw (sub-zero, whole.walks);
  limits = λ k d h. absurd (omega arith);
  few = record { unknowns = omega arith; variables = omega arith; clauses = omega arith; slots = omega arith };
}

module _ {table : List ℕ} {rows r : ℕ} {sheet : Sheet} (p : Walking table rows r sheet) where
  -- all rows are walked
  pub walked : r ≡ rows → (sheet.rows ≡ rows_of (length sheet.records) table) × (ending table sheet.records sheet.counts ≡ accept table)
  unfolding rows_of walk
  walked h =
      let none : rows - r ≡ 0 = omega arith in
      let same : length sheet.records ≡ rows = p.records ∙ h in
      (rw same (sym (append-nil sheet.rows) ∙ rw none at p.read), rw none at p.left)

  -- and the last row's unit is counted: no sum over the sheet wraps
  pub bounded : r ≡ rows → {next : Sheet} → next.rows ≡ sheet.rows → next.records ≡ sheet.records → next.counts ≡ sheet.counts ⊕ the_last → InBounds next
  bounded h fs rs so =
      let most : r ≤ 256 = omega (arith, p.whole.most) in
      let last : Below 2 the_last = record { unknowns = omega arith; variables = omega arith; clauses = omega arith; slots = omega arith } in
      let b = plus_below p.few last so in
      record {
        few = rw fs (omega (arith, p.as_many, most));
        limits = rw rs p.limits;
        counts = record { unknowns = omega (arith, b.unknowns, most); variables = omega (arith, b.variables, most); clauses = omega (arith, b.clauses, most); slots = omega (arith, b.slots, most) };
      }

  -- row r is next
  module _ (h : r < rows) where
    more : rows - r ≡ suc (rows - (r + 1))
    more = omega arith

    behind : drop (8 * (r + 1)) table ≡ drop 8 (drop (8 * r) table)
    behind = let e : 8 * (r + 1) ≡ 8 * r + 8 = omega arith in rw e (sym (drop-drop 8 (8 * r) table))

    pub walking_stop : {reason : Reason} → judge sheet.records sheet.counts.slots (row_at table r) ≡ Err reason → refused reason r ≡ accept table
    unfolding walk
    walking_stop {reason} e =
        let left = rw (more, e) at p.left in
        ap (λ (n : ℕ). refused reason n) (sym p.records) ∙ left

    pub walking_next : {f : Fields} {passed : Passed} {next : Sheet} → row_at table r ≡ Ok f → judge sheet.records sheet.counts.slots (row_at table r) ≡ Ok passed
        → InLimits passed.row × Below 170000 passed.counts → next.rows ≡ sheet.rows ++ f ∷ [] → next.records ≡ sheet.records ++ passed.row ∷ [] → next.counts ≡ sheet.counts ⊕ passed.counts
        → Walking table rows (r + 1) next
    unfolding rows_of walk
    walking_next {f} {passed} e v bounded fs rs so =
        let b = plus_below p.few bounded.1 so in
        record {
          whole = p.whole;
          as_many = rw (fs, length-append sheet.rows (f ∷ [])) (omega (arith, p.as_many));
          records = rw (rs, length-append sheet.records (passed.row ∷ [])) (omega (arith, p.records));
          read = rw (fs, append_assoc, behind) (rw (more, e) at p.read);
          left = rw (rs, so, behind) (rw (more, v) at p.left);
          limits = rw rs (All-push InLimits sheet.records passed.row p.limits bounded.0);
          few = record { unknowns = omega arith; variables = omega arith; clauses = omega arith; slots = omega arith };
        }
