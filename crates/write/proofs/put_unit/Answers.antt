-- `write::put_unit` meets its contract. Assumes nothing.
use mathlib.Core.Path.{◌≡◌, refl}
use mathlib.Core.List.{List, [], ◌∷◌}
use Prim.Native.Nat.{◌≤◌}
use native.Mathlib.Omega.{arith}
use lib.IntN.{ℤ, pos}
use lib.ListN.{length, set}
use mir.Facts.{to_z-of_z}
use Rattle.frame.specs.Frame.{front}
use Rattle.write.proofs.put_unit.Goals as goal

two-set : (l : List ℤ) (x : ℤ) → 2 ≤ length l → set (set l 0 x) 1 (pos 0) ≡ front (x ∷ pos 0 ∷ []) l
unfolding front
two-set [] x h = absurd (omega arith)
two-set (a ∷ []) x h = absurd (omega arith)
two-set (a ∷ b ∷ l) x h = refl

pub returns : goal.returns
returns c = rw (to_z-of_z c.ranges.x) (two-set c.args.out.now c.args.x c.requires)
