-- One bit of a comparison. Assumes nothing.
use Rattle.circuit.specs.Literals.{Lit, neg}
use Rattle.circuit.specs.Gates.{and, xor, mux}
use Rattle.circuit.specs.Circuits.{Circuit, make, ◌>>=◌}

-- d = XOR(a, b), g = MUX(d, p, g): p is a, and at the sign bit b
abbrev pub order_bit : (a b p g : Lit) → Circuit Lit
order_bit a b p g = do
  d ← make (xor a b)
  make (mux d p g)

-- d = XOR(a, b), e = AND(e, -d)
abbrev pub match_bit : (a b e : Lit) → Circuit Lit
match_bit a b e = do
  d ← make (xor a b)
  make (and e (neg d))
