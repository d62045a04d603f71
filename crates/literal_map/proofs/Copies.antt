-- A row's 48 places as its literals are put into them, and as they are copied into the map. Assumes nothing.
use mathlib.Core.Path.{◌≡◌, sym, ◌∙◌}
use mathlib.Core.List.{List, [], ◌∷◌, ◌++◌, map, map-append}
use Prim.Native.Nat.{ℕ, suc, ◌+◌, ◌-◌, ◌<◌, ◌≤◌}
use native.Mathlib.Omega.{arith}
use native.Mathlib.Numerals.{add-one}
use lib.IntN.{ℤ, pos}
use lib.ListN.{length, get_or, set, take, replicate, length-append, length-map}
use lib.Seq.{set_at, append_snoc, take-suc, length-take-le}
use Rattle.circuit.specs.Literals.{Lit, slot}
use Rattle.sheet.specs.Steps.{page}

-- a literal more
page_snoc : (ls : List Lit) (l : Lit) (i : ℕ) → length ls ≡ i → i < 48 → set (page ls) i (slot l) ≡ page (ls ++ l ∷ [])
page_snoc ls l i e h =
    let rest : List ℤ = replicate (48 - length (ls ++ l ∷ [])) (pos 0) in
    let n : 48 - length ls ≡ suc (48 - length (ls ++ l ∷ [])) = omega (arith, length-append ls (l ∷ [])) in
    rw (n, map-append slot ls (l ∷ [])) (set_at (map slot ls) (pos 0) rest (slot l) i (length-map ls slot ∙ e) ∙ sym (append_snoc (map slot ls) (slot l) rest))

-- a literal of the list more
pub page_more : (ls : List Lit) (i : ℕ) (l : Lit) → i < length ls → length ls ≤ 48 → l ≡ get_or ls i l → set (page (take i ls)) i (slot l) ≡ page (take (i + 1) ls)
page_more ls i l h k e = rw (add-one, take-suc ls i l h, ← e) (page_snoc (take i ls) l i (length-take-le i ls (omega arith)) (omega arith))
