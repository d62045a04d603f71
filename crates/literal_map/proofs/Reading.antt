-- A row's cell read from the map where its row stands, and a row more written behind. Assumes nothing.
use mathlib.Core.Path.{◌≡◌, sym, ap, ap₂, ◌∙◌}
use mathlib.Core.List.{List, [], ◌∷◌, ◌++◌, map, append_assoc}
use Prim.Native.Nat.{ℕ, zero, suc, ◌-◌, ◌+◌, ◌*◌, ◌≤◌, ◌<◌}
use native.Mathlib.Omega.{arith}
use lib.IntN.{ℤ, pos}
use lib.ListN.{length, get_or, take, drop, replicate, length-append, take-append-drop}
use lib.Seq.{get_or-take, take_at, take-take, length-take-le}
use Rattle.circuit.specs.Literals.{Lit, plus, minus, slot}
use Rattle.circuit.proofs.Wellformed.{Names}
use Rattle.circuit.proofs.Bounds.{bound}
use Rattle.sheet.specs.declared.Record.{Record}
use Rattle.sheet.specs.Acceptance.{record_at}
use Rattle.sheet.specs.Steps.{Cell, cell, cell_at, page, pages}
use Rattle.sheet.proofs.Counted.{CellsFor, cell_at_lem}
use Rattle.sheet.proofs.Pages.{Narrow, page_long, page_first, narrow_at, pages_at, pages_snoc}
use Rattle.frame.specs.Frame.{front, over}
use Rattle.frame.specs.Literals.{literals, IsLit, AllLit}
use Rattle.frame.proofs.Slots.{literals_of}
use Rattle.literal_map.specs.Cells.{operand_in, InMap, cell_of}

-- a literal of one of n variables has a slot
slot_is : (n : ℕ) (l : Lit) → n < 2147483648 → Names n l → IsLit (slot l)
slot_is n (plus i) h k = record { some = omega arith; fits = omega arith }
slot_is n (minus i) h k = record { some = omega arith; fits = omega arith }

slots_are : (n : ℕ) (ls : List Lit) (rest : List ℤ) → n < 2147483648 → bound ls ≤ n → AllLit (length ls) (map slot ls ++ rest)
slots_are n [] rest h b i k = absurd (omega arith)
slots_are n (l ∷ ls) rest h b zero k = slot_is n l h (omega arith)
slots_are n (l ∷ ls) rest h b (suc i) k = slots_are n ls rest h (omega arith) i (omega arith)

-- the first rows of the map m are cs
module _ (r : ℕ) (cs : List Cell) (m : List ℤ) (n : Narrow cs) (many : length cs ≡ r) (e : take (48 * r) m ≡ pages cs) where
  row_at : (x : ℕ) → x < r → take 48 (drop (48 * x) m) ≡ page (cell_at cs x).literals
  row_at x h =
      let s : m ≡ pages cs ++ drop (48 * r) m = sym (take-append-drop (48 * r) m) ∙ ap (λ (v : List ℤ). v ++ drop (48 * r) m) e in
      ap (λ (v : List ℤ). take 48 (drop (48 * x) v)) s ∙ pages_at cs x (drop (48 * r) m) n (omega arith)

  literals_at : (x w : ℕ) → x < r → length (cell_at cs x).literals ≡ w → literals (take w (drop (48 * x) m)) ≡ (cell_at cs x).literals
  literals_at x w h k =
      let ls = (cell_at cs x).literals in
      let q : w ≤ 48 = omega (arith, narrow_at cs x n) in
      ap literals (sym (take-take w 48 (drop (48 * x) m) q) ∙ ap (take w) (row_at x h) ∙ ap (λ (i : ℕ). take i (page ls)) (sym k) ∙ page_first ls) ∙ literals_of ls

  module _ (v : ℕ) (some : 0 < v) (rs : List Record) (fit : CellsFor v rs cs) (x : ℕ) (h : x < r) where
    -- what is read of a row, by its record, is its cell
    pub cell_read : cell_of (operand_in m x (record_at rs x)) ≡ cell_at cs x
    cell_read =
        let f = cell_at_lem v some rs cs fit x in
        ap₂ cell (literals_at x (record_at rs x).width h f.lits.size) f.under

    -- its slots are literals
    slots_read : v < 2147483648 → AllLit (record_at rs x).width (drop (48 * x) m)
    slots_read few i k =
        let f = cell_at_lem v some rs cs fit x in
        let ls = (cell_at cs x).literals in
        let near : i < 48 = omega (arith, narrow_at cs x n, f.lits.size) in
        let e : get_or (drop (48 * x) m) i (pos 0) ≡ get_or (page ls) i (pos 0) = sym (get_or-take 48 (drop (48 * x) m) i (pos 0) near) ∙ ap (λ (l : List ℤ). get_or l i (pos 0)) (row_at x h) in
        rw e (slots_are v ls (replicate (48 - length ls) (pos 0)) few f.lits.low i (omega (arith, f.lits.size)))

    -- so the map has the row
    pub row_in : v < 2147483648 → 48 * r ≤ length m → InMap m x (record_at rs x)
    row_in few long =
        let f = cell_at_lem v some rs cs fit x in
        record { some = f.some; narrow = omega (arith, narrow_at cs x n, f.lits.size); long = omega arith; all = slots_read few }

  -- what is written of a row is a row more
  pub map_more : (c : Cell) → length c.literals ≤ 48 → 48 * r + 48 ≤ length m → take (48 * (r + 1)) (over (48 * r) (page c.literals) m) ≡ pages (cs ++ c ∷ [])
  unfolding over front
  map_more c h k =
      let v = page c.literals in
      let rest = drop (length v) (drop (48 * r) m) in
      let l : length (take (48 * r) m ++ v) ≡ 48 * (r + 1) = length-append (take (48 * r) m) v ∙ omega (arith, length-take-le (48 * r) m (omega arith), page_long c.literals h) in
      ap (take (48 * (r + 1))) (sym (append_assoc (take (48 * r) m) v rest))
      ∙ take_at (take (48 * r) m ++ v) rest (48 * (r + 1)) l
      ∙ ap (λ (u : List ℤ). u ++ v) e
      ∙ sym (pages_snoc cs c)
