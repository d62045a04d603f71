-- Literals in slots. Assumes nothing.
use mathlib.Core.Path.{◌≡◌, refl, ◌∙◌}
use mathlib.Core.List.{List, [], ◌∷◌, map}
use Prim.Native.Nat.{◌<◌}
use lib.IntN.{ℤ}
use lib.Signed.{mag}
use mir.Facts.{to_z-of_z}
use mir.Syntax.{w32}
use mir.Val.{to_z, of_z}
use Rattle.circuit.specs.Literals.{Lit, plus, minus, slot}
use Rattle.frame.specs.Literals.{unslot, literals}

-- a number that fits, put into a place, is read back
pub held : {x y : ℤ} → mag x < 2147483648 → x ≡ y → to_z w32 (of_z w32 x) ≡ y
held {x} h e = to_z-of_z {w = w32} {z = x} (record { sfits = h }) ∙ e

pub unslot-slot : (l : Lit) → unslot (slot l) ≡ l
unslot-slot (plus i) = refl
unslot-slot (minus i) = refl

-- literals written as numbers are read back
pub literals_of : (ls : List Lit) → literals (map slot ls) ≡ ls
literals_of [] = refl
literals_of (l ∷ ls) = rw (unslot-slot l, literals_of ls)
