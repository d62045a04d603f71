-- A row of an accepted sheet in its literal map: its page holds its literals, and its setting is the next of the sheet's. Assumes nothing.
use mathlib.Core.Path.{◌≡◌, refl, sym, ap, ◌∙◌, subst}
use mathlib.Core.Bool.{Bool, true, false}
use mathlib.Core.List.{List, [], ◌∷◌, ◌++◌, map}
use Prim.Native.Nat.{ℕ, zero, suc, ◌+◌, ◌*◌, ◌≤◌, ◌<◌}
use native.Mathlib.Omega.{arith}
use lib.IntN.{ℤ}
use lib.ListN.{length, get_or, take, drop, length-append, length-drop, length-map}
use lib.Seq.{take-take}
use Rattle.std.proofs.lemmas.List.{drop_more}
use Rattle.whole.specs.Tests.{if◌then◌otherwise◌}
use Rattle.circuit.specs.Literals.{Lit, plus, minus, falsity, slot}
use Rattle.circuit.specs.Circuits.{gates}
use Rattle.circuit.specs.Counting.{the_first}
use Rattle.circuit.proofs.Bounds.{bound}
use Rattle.sheet.specs.declared.Record.{Record}
use Rattle.sheet.specs.Rows.{uses, is_unknown}
use Rattle.sheet.specs.Values.{numerator}
use Rattle.sheet.specs.Acceptance.{missing, record_at, Sheet}
use Rattle.sheet.specs.Steps.{Cell, cell, cell_at, page, pages, steps, cells, map_for, read_as, read_each, of_unknowns}
use Rattle.sheet.specs.Calls.{assigned}
use Rattle.sheet.proofs.Counted.{CellsFor, CellFor, cell_at_lem, cells_many}
use Rattle.sheet.proofs.Pages.{Narrow, page_first, pages_at, pages_long, narrow_at, narrow_cells}
use Rattle.sheet.proofs.Total.{whole_table}
use Rattle.promise.proofs.Counts.{counts_are_made, passed_narrow}
use Rattle.frame.specs.Literals.{literals}
use Rattle.frame.proofs.Slots.{literals_of}
use Rattle.table.specs.Accepted.{Accepted}
use Rattle.table.proofs.Rowwise.{tells, as_many, few_counts, no_fields}
use Rattle.assign.specs.Model.{LitOf, AllLitOf}
use Rattle.bits.specs.Readings.{Page}
use Rattle.decode.specs.Written.{Written}

one_more : (b : Bool) (x : ℤ) (xs : List ℤ) → (if b then x ∷ xs otherwise xs) ≡ (if b then x ∷ [] otherwise []) ++ xs
one_more true x xs = refl
one_more false x xs = refl

-- ---- a row's page
slot_of : (n : ℕ) (l : Lit) (ls : List Lit) → n < 2147483648 → bound (l ∷ ls) ≤ n → LitOf n (slot l)
slot_of n (plus i) ls h b = record { lit = record { some = omega arith; fits = omega arith }; within = omega arith }
slot_of n (minus i) ls h b = record { lit = record { some = omega arith; fits = omega arith }; within = omega arith }

slots_of_lem : (n : ℕ) (ls : List Lit) → n < 2147483648 → bound ls ≤ n → AllLitOf n (map slot ls)
slots_of_lem n [] h b i k = absurd (omega arith)
slots_of_lem n (l ∷ ls) h b zero k = slot_of n l ls h b
slots_of_lem n (l ∷ ls) h b (suc i) k = slots_of_lem n ls h (omega arith) i (omega arith)

-- the places of row x in a map whose rows are cs
places_at : (cs : List Cell) (rest : List ℤ) (x w : ℕ) → Narrow cs → x < length cs → length (cell_at cs x).literals ≡ w
    → take w (drop (48 * x) (pages cs ++ rest)) ≡ map slot (cell_at cs x).literals
places_at cs rest x w n h k =
    let ls = (cell_at cs x).literals in
    let q : w ≤ 48 = omega (arith, narrow_at cs x n) in
    sym (take-take w 48 (drop (48 * x) (pages cs ++ rest)) q) ∙ ap (take w) (pages_at cs x rest n h) ∙ ap (λ (i : ℕ). take i (page ls)) (sym k) ∙ page_first ls

-- ---- what is left to write when r rows are done
abbrev pub settings_from : (sheet : Sheet) (model : List ℕ) (r : ℕ) → List ℤ
settings_from sheet model r = of_unknowns (drop r sheet.rows) (read_each (assigned model) (drop r sheet.records) (drop r (cells sheet.rows)))

-- a row's setting, as it is read of the map
abbrev pub read_of : (own : Record) (r : ℕ) (map : List ℤ) (model : List ℕ) → ℤ
read_of own r map model = numerator (read_as (assigned model) own (literals (take own.width (drop (48 * r) map))))

-- ---- an accepted sheet, its map, and a model
module _ {sheet : Sheet} {map₀ : List ℤ} {model : List ℕ} (written : Written sheet map₀ model) where
  abbrev a : Accepted sheet
  a = written.accepted

  abbrev made : List Cell
  made = cells sheet.rows

  gates_many : length (gates 0 (steps sheet.rows)) ≡ length model
  gates_many = sym (counts_are_made a.table sheet a.is).variables ∙ sym written.variables

  fit : CellsFor (length model) sheet.records made
  fit = subst (λ (n : ℕ). CellsFor n sheet.records made) gates_many (whole_table sheet (tells a).total (tells a).passed).fit

  some_model : 0 < length model
  unfolding steps
  some_model = omega (arith, gates_many)

  narrow : Narrow made
  narrow = narrow_cells (length model) sheet.records made fit (passed_narrow sheet.rows [] the_first sheet.records (tells a).total (tells a).passed tt)

  cells_all : length made ≡ length sheet.rows
  cells_all = cells_many (length model) sheet.records made fit ∙ as_many a

  pub map_long : 48 * length sheet.rows ≤ length map₀
  unfolding map_for
  map_long = omega (arith, ap length written.in_map, length-append (pages made) written.behind, pages_long made narrow, cells_all)

  -- row r
  module _ (r : ℕ) (h : r < length sheet.rows) where
    cell_of_lem : CellFor (length model) (record_at sheet.records r) (cell_at made r)
    cell_of_lem = cell_at_lem (length model) some_model sheet.records made fit r

    places : take (record_at sheet.records r).width (drop (48 * r) map₀) ≡ map slot (cell_at made r).literals
    unfolding map_for
    places =
        let w = (record_at sheet.records r).width in
        ap (λ (l : List ℤ). take w (drop (48 * r) l)) written.in_map ∙ places_at made written.behind r w narrow (omega (arith, cells_all)) cell_of_lem.lits.size

    reads : literals (take (record_at sheet.records r).width (drop (48 * r) map₀)) ≡ (cell_at made r).literals
    reads = ap literals places ∙ literals_of (cell_at made r).literals

    pub page_of : Page (length model) (record_at sheet.records r) (drop (48 * r) map₀)
    page_of =
        let ls = (cell_at made r).literals in
        let w : length ls ≤ 48 = narrow_at made r narrow in
        let long : length (map slot ls) ≡ length ls = length-map ls slot in
        record {
          some = cell_of_lem.some;
          long = rw length-drop (omega (arith, w, cell_of_lem.lits.size, map_long));
          readable = rw places (record { few = omega (arith, long, w); all = slots_of_lem (length model) ls (omega (arith, written.variables, (few_counts a).variables)) cell_of_lem.lits.low });
        }

    pub row_more : (b : Bool) → is_unknown (uses (get_or sheet.rows r no_fields).kind) ≡ b
        → settings_from sheet model r ≡ (if b then read_of (record_at sheet.records r) r map₀ model ∷ [] otherwise []) ++ settings_from sheet model (r + 1)
    row_more b e =
        let rs = sheet.records in
        let others = of_unknowns (drop (r + 1) sheet.rows) (read_each (assigned model) (drop (r + 1) rs) (drop (r + 1) made)) in
        rw (
          drop_more sheet.rows r no_fields h,
          drop_more rs r missing (omega (arith, as_many a)),
          drop_more made r (cell (falsity ∷ []) 1) (omega (arith, cells_all)),
          e,
          reads,
        ) (one_more b (numerator (read_as (assigned model) (record_at rs r) (cell_at made r).literals)) others)
