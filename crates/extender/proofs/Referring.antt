-- A list's first elements, and what is read where they end. Assumes nothing.
use mathlib.Core.Path.{◌≡◌, sym, ◌∙◌}
use mathlib.Core.List.{List}
use Prim.Native.Nat.{ℕ, ◌≤◌, ◌<◌}
use native.Mathlib.Omega.{arith}
use lib.ListN.{length, get_or, take, get_or-eq_default}
use lib.Seq.{get_or-take, length-take-le}
use Rattle.std.proofs.lemmas.List.{get_or_default}

-- one of the first, whatever is read where there is none
pub one_of_first : {A : Type 0} (l : List A) (n i : ℕ) (d e : A) → n ≤ length l → i < n → get_or l i d ≡ get_or (take n l) i e
one_of_first l n i d e h k = get_or_default l i d e (omega (arith, h, k)) ∙ sym (get_or-take n l i e k)

-- none of the first
pub behind_first : {A : Type 0} (l : List A) (n i : ℕ) (d : A) → n ≤ length l → n ≤ i → d ≡ get_or (take n l) i d
behind_first l n i d h k = sym (get_or-eq_default (take n l) d (omega (arith, length-take-le n l h, k)))

pub ruleset refers = (one_of_first, behind_first)
