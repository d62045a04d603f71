-- One place of numbers whose bits there are a and b: what its gates hold. Assumes nothing.
use Rattle.std.specs.Prelude.{Bool, not, ◌&&◌, List, [], ◌∷◌}
use Rattle.circuit.specs.Gates.{xor_of, mux_of, maj_of}

-- of a sum: they differ, the sum's bit, the new carry
abbrev pub sum_place : (a b carry : Bool) → List Bool
sum_place a b carry = xor_of a b ∷ xor_of (xor_of a b) carry ∷ maj_of a b carry ∷ []

-- of greater, g so far: they differ, then p, else g
abbrev pub order_place : (a b p g : Bool) → List Bool
order_place a b p g = xor_of a b ∷ mux_of (xor_of a b) p g ∷ []

-- of equal, e so far: they differ, e and they do not
abbrev pub match_place : (a b e : Bool) → List Bool
match_place a b e = xor_of a b ∷ (e && not (xor_of a b)) ∷ []
