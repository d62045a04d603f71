-- The literals that the code's slots stand for. Assumes nothing.
use Rattle.std.specs.Prelude.{List, map, ℕ, zero, suc, ◌≤◌, ◌<◌, get_or, ℤ, pos, negsuc, nat_abs}
use Rattle.circuit.specs.Literals.{Lit, plus, minus}

-- a slot read back; 0 stands for no literal, and is read as any
abbrev pub unslot : ℤ → Lit
unslot (pos zero) = plus 0
unslot (pos (suc i)) = plus i
unslot (negsuc i) = minus i

abbrev pub literals : List ℤ → List Lit
literals l = map unslot l

-- a literal's slot: not 0, and its negation fits too
pub record IsLit (x : ℤ) : Type 0 where
  pub some : 1 ≤ nat_abs x
  pub fits : nat_abs x < 2147483648

-- the first w places hold literals
abbrev pub AllLit : ℕ → List ℤ → Type 0
AllLit w l = (i : ℕ) → i < w → IsLit (get_or l i (pos 0))
