-- One bit of an adder. Assumes nothing.
use Rattle.circuit.specs.Literals.{Lit}
use Rattle.circuit.specs.Gates.{xor, maj}
use Rattle.circuit.specs.Circuits.{Circuit, ret, make, ◌>>=◌}
use Rattle.adder.specs.declared.Bit.{Bit}

-- t = XOR(a, b); s = XOR(t, carry); the new carry = MAJ(a, b, carry)
abbrev pub adder_bit : (a b carry : Lit) → Circuit Bit
adder_bit a b carry = do
  t ← make (xor a b)
  s ← make (xor t carry)
  c ← make (maj a b carry)
  ret (record { sum = s; carry = c })
