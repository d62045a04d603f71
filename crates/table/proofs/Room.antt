-- A list in a fixed number of places, of which those from n on are free. Assumes nothing.
use mathlib.Core.Path.{◌≡◌, ap, ◌∙◌}
use mathlib.Core.List.{List}
use Prim.Native.Nat.{ℕ, suc, ◌+◌, ◌-◌, ◌<◌}
use native.Mathlib.Omega.{arith}
use native.Mathlib.Numerals.{add-one}
use lib.ListN.{length, set, drop}
use lib.Seq.{drop-set-lt, drop-drop}
use Rattle.std.specs.Prelude.{replicate}

-- the one at n is taken
module _ {A : Type 0} where
  pub free_behind : (most n : ℕ) (l : List A) (none x : A) → drop n l ≡ replicate (most - n) none → n < most → n < length l → drop (n + 1) (set l n x) ≡ replicate (most - (n + 1)) none
  free_behind most n l none x e h k =
      let f : most - n ≡ suc (most - suc n) = omega arith in
      let g : n + 1 ≡ suc n = omega arith in
      let d : drop 1 (drop n l) ≡ drop (suc n) l = drop-drop 1 n l ∙ ap (λ (k : ℕ). drop k l) g in
      rw (add-one, drop-set-lt (suc n) l n x (omega arith), ← d, e, f)
