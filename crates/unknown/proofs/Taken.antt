-- A row takes at most one value, the next one, and none if it is no unknown. Assumes nothing.
use mathlib.Core.Path.{◌≡◌, refl, ap, ◌∙◌}
use mathlib.Core.Bool.{Bool, true, false}
use mathlib.Core.List.{List}
use Prim.Native.Nat.{ℕ, ◌≤◌}
use native.Mathlib.Nat.{add-zero}
use native.Mathlib.Omega.{arith}
use lib.IntN.{ℤ, pos}
use lib.ListN.{get_or, drop}
use lib.Seq.{get_or-drop}
use Rattle.whole.specs.Bits.{bit}

pub bit_most : (b : Bool) → bit b ≤ 1
bit_most true = omega arith
bit_most false = omega arith

pub bit_none : (b : Bool) → bit b ≡ 0 → b ≡ false
bit_none true e = absurd (omega arith)
bit_none false e = refl

pub bit_some : (b : Bool) → (bit b ≡ 0 → ⊥) → b ≡ true
bit_some true e = refl
bit_some false e = absurd (e refl)

pub next_value : (values : List ℤ) (i : ℕ) → get_or (drop i values) 0 (pos 0) ≡ get_or values i (pos 0)
next_value values i = get_or-drop i values 0 (pos 0) ∙ ap (λ (n : ℕ). get_or values n (pos 0)) (add-zero i)
