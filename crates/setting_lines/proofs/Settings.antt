-- The pages of an accepted table's settings, one after the other, are the paper's lines. Assumes nothing.
use Rattle.std.specs.Prelude.{Ok, Err}
use mathlib.Core.Path.{◌≡◌, refl, sym, ap, ◌∙◌}
use mathlib.Core.Bool.{Bool, true, false, false≢true}
use mathlib.Core.List.{List, [], ◌∷◌, ◌++◌, append_assoc, append-nil}
use Prim.Native.Nat.{ℕ, zero, suc, ◌+◌, ◌/◌}
use native.Mathlib.Omega.{arith}
use lib.IntN.{ℤ}
use lib.ListN.{length, take, drop}
use Rattle.circuit.specs.declared.Counts.{Counts}
use Rattle.circuit.specs.Literals.{Lit, Assignment}
use Rattle.circuit.specs.Counting.{◌⊕◌}
use Rattle.sheet.specs.declared.Kind.{Kind}
use Rattle.sheet.specs.declared.Kind.TheVariants.{BooleanConstant, BooleanUnknown, NaturalUnknown, IntegerUnknown, NumberConstant, Not, And, Or, Implies, Iff, Sum, Difference, Product, Choice, Greater, Equal}
use Rattle.sheet.specs.declared.Fields.{Fields}
use Rattle.sheet.specs.declared.Record.{Record}
use Rattle.sheet.specs.Rows.{Reading, uses, is_unknown, read_row, and_rows, rows_of}
use Rattle.sheet.specs.Values.{Value, numerator, denominator, row_val}
use Rattle.sheet.specs.Acceptance.{record_by, plan_by, Sheet, accept}
use Rattle.sheet.specs.Steps.{Cell, cells, read_as, read_each, read_rows, of_unknowns, settings}
use Rattle.sheet.specs.Texts.{setting_lines}
use Rattle.sheet.proofs.Accepted.{Passed, accepted_tells}
use Rattle.sheet.proofs.Walked.{rows_at_most}
use Rattle.sheet.proofs.Counted.{cells_many}
use Rattle.sheet.proofs.Total.{whole_table}
use Rattle.print.specs.Pages.{joined}
use Rattle.setting_lines.specs.Settings.{setting_line, setting_pieces, table_pieces, SettingsPages}
use Rattle.print.proofs.Pages.{all_pages}
use Rattle.setting_lines.proofs.Rows.{pieces_many}

-- ---- the records of rows that pass

module _ (s : Assignment) where
  -- however a row's literals read, an unknown's value is over the denominator that the row declares
  abbrev Over : Fields → Record → Type 0
  Over f r = is_unknown (uses f.kind) ≡ true → (ls : List Lit) → (v : ℤ) → denominator (read_as s r ls) ≡ denominator (row_val [] f v)

  abbrev AllOver : List Fields → List Record → Type 0
  AllOver [] [] = Unit {0}
  AllOver [] (r ∷ rs) = ⊥
  AllOver (f ∷ rows) [] = ⊥
  AllOver (f ∷ rows) (r ∷ rs) = Over f r × AllOver rows rs

  plan_over : (k : Kind) (p x y z first : ℕ) (a b c : Record) → is_unknown (uses k) ≡ true → (ls : List Lit) (v : ℤ)
      → denominator (read_as s (record_by first (plan_by k p x y z a b c)) ls) ≡ denominator (row_val [] (record { kind = k; p = p; x = x; y = y; z = z }) v)
  unfolding row_val
  plan_over BooleanUnknown p x y z first a b c u ls v = refl
  plan_over NaturalUnknown p x y z first a b c u ls v = refl
  plan_over IntegerUnknown p x y z first a b c u ls v = refl
  plan_over BooleanConstant p x y z first a b c u ls v = absurd (false≢true u)
  plan_over NumberConstant p x y z first a b c u ls v = absurd (false≢true u)
  plan_over Not p x y z first a b c u ls v = absurd (false≢true u)
  plan_over And p x y z first a b c u ls v = absurd (false≢true u)
  plan_over Or p x y z first a b c u ls v = absurd (false≢true u)
  plan_over Implies p x y z first a b c u ls v = absurd (false≢true u)
  plan_over Iff p x y z first a b c u ls v = absurd (false≢true u)
  plan_over Sum p x y z first a b c u ls v = absurd (false≢true u)
  plan_over Difference p x y z first a b c u ls v = absurd (false≢true u)
  plan_over Product p x y z first a b c u ls v = absurd (false≢true u)
  plan_over Choice p x y z first a b c u ls v = absurd (false≢true u)
  plan_over Greater p x y z first a b c u ls v = absurd (false≢true u)
  plan_over Equal p x y z first a b c u ls v = absurd (false≢true u)

  passed_over : (rows : List Fields) (earlier : List Record) (so : Counts) (records : List Record) (total : Counts) → Passed earlier so rows records total
      → (new : List Record) × (records ≡ earlier ++ new) × AllOver rows new
  passed_over [] earlier so records total p = ([], sym p.0 ∙ sym (append-nil earlier), tt)
  passed_over (f ∷ rows) earlier so records total p =
      let r = p.0 in
      let (new, e, h) = passed_over rows (earlier ++ r ∷ []) (so ⊕ p.1) records total p.3 in
      let here : Over f r = rw p.2.is_record (λ u ls v. plan_over f.kind f.p f.x f.y f.z so.slots _ _ _ u ls v) in
      (r ∷ new, e ∙ append_assoc earlier (r ∷ []) new, (here, h))

  -- ---- the lines

  lines_joined : (n i : ℕ) (bytes : List ℕ) (rs : List Record) (cs : List Cell) → length (rows_of n bytes) ≡ n → AllOver (rows_of n bytes) rs → length cs ≡ length rs
      → joined (setting_pieces n i bytes (of_unknowns (rows_of n bytes) (read_each s rs cs))) ≡ setting_lines i (rows_of n bytes) (read_each s rs cs)
  unfolding rows_of setting_pieces joined setting_lines setting_line
  lines_joined zero i bytes [] cs many h l = refl
  lines_joined zero i bytes (r ∷ rs) cs many h l = absurd h
  lines_joined (suc n) i bytes rs cs many h l =
      step (read_row (take 8 bytes)) refl rs cs many h l (λ rs' cs'. lines_joined n (i + 1) (drop 8 bytes) rs' cs')
    where
      rest : List Fields
      rest = rows_of n (drop 8 bytes)

      Rest : Type 0
      Rest = (rs : List Record) (cs : List Cell) → length rest ≡ n → AllOver rest rs → length cs ≡ length rs
          → joined (setting_pieces n (i + 1) (drop 8 bytes) (of_unknowns rest (read_each s rs cs))) ≡ setting_lines (i + 1) rest (read_each s rs cs)

      one : (b : Bool) (f : Fields) (v : Value) (vs : List Value) → is_unknown (uses f.kind) ≡ b → read_row (take 8 bytes) ≡ Ok f
          → (is_unknown (uses f.kind) ≡ true → denominator v ≡ denominator (row_val [] f (numerator v)))
          → joined (setting_pieces n (i + 1) (drop 8 bytes) (of_unknowns rest vs)) ≡ setting_lines (i + 1) rest vs
          → joined (setting_pieces (suc n) i bytes (of_unknowns (f ∷ rest) (v ∷ vs))) ≡ setting_lines i (f ∷ rest) (v ∷ vs)
      one true f v vs u q o e = rw (q, u, ← o u) (ap (λ (t : List ℕ). setting_line i (numerator v) (denominator v) ++ t) e)
      one false f v vs u q o e = rw (q, u) e

      step : (reading : Reading) → read_row (take 8 bytes) ≡ reading → (rs : List Record) (cs : List Cell) → length (and_rows reading rest) ≡ suc n → AllOver (and_rows reading rest) rs
          → length cs ≡ length rs → Rest
          → joined (setting_pieces (suc n) i bytes (of_unknowns (and_rows reading rest) (read_each s rs cs))) ≡ setting_lines i (and_rows reading rest) (read_each s rs cs)
      step (Err m) q rs cs many h l k = absurd (omega (arith, rows_at_most n (drop 8 bytes)))
      step (Ok f) q [] cs many h l k = absurd h
      step (Ok f) q (r ∷ rs) [] many h l k = absurd (omega arith)
      step (Ok f) q (r ∷ rs) (c ∷ cs) many h l k =
          one (is_unknown (uses f.kind)) f (read_as s r c.literals) (read_each s rs cs) refl q (λ u. h.0 u c.literals (numerator (read_as s r c.literals))) (k rs cs (omega arith) h.1 (omega arith))

-- ---- a whole table

over_many : (s : Assignment) (rows : List Fields) (rs : List Record) → AllOver s rows rs → length rows ≡ length rs
over_many s [] [] h = refl
over_many s [] (r ∷ rs) h = absurd h
over_many s (f ∷ rows) [] h = absurd h
over_many s (f ∷ rows) (r ∷ rs) h = ap suc (over_many s rows rs h.1)

pub settings_joined : (table : List ℕ) (sheet : Sheet) → accept table ≡ Ok sheet → (s : Assignment)
    → joined (table_pieces table (settings sheet s)) ≡ setting_lines 0 sheet.rows (read_rows sheet s)
unfolding settings read_rows
settings_joined table sheet e s =
    let a = accepted_tells table sheet e in
    let (new, same, h) = passed_over s sheet.rows [] _ sheet.records a.total a.passed in
    let k = rw (← same) at h in
    let l = cells_many _ sheet.records (cells sheet.rows) (whole_table sheet a.total a.passed).fit in
    let m : length sheet.rows ≡ length table / 8 = over_many s sheet.rows sheet.records k ∙ a.many in
    rw a.read (lines_joined s (length table / 8) 0 table sheet.records (cells (rows_of (length table / 8) table)) (rw a.read at m) (rw a.read at k) (rw a.read at l))

pub settings_pages : SettingsPages
settings_pages table sheet e s k room h l =
    let n = length table / 8 in
    all_pages k 0 (table_pieces table (settings sheet s)) room h (rw (pieces_many n 0 table (settings sheet s)) (omega arith)) ∙ settings_joined table sheet e s
