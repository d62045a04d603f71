-- The lowest bit of a whole number and its half, the rest: those of a sum with a carry, and of a number whose bits are turned. Assumes nothing.
use mathlib.Core.Path.{◌≡◌}
use mathlib.Core.Bool.{Bool, not}
use Prim.Native.Nat.{ℕ, ◌+◌, ◌*◌}
use native.Mathlib.Omega.{arith}
use lib.IntN.{ℤ, pos, ◌+ℤ◌}
use Rattle.whole.specs.Bits.{bit, odd, half}
use Rattle.whole.proofs.Differences.{Dif, dif_shift, dif_eq, dif_same, dif_pos, dif_negsuc, dif_add, dif_minus, dif_mul, positive_part, negative_part, parts}
use Rattle.whole.proofs.Bits.{bit_not, bit_inj, odd_half}
use Rattle.circuit.specs.Gates.{xor_of, maj_of}
use Rattle.circuit.proofs.Adding.{one_place}
use Rattle.trace.specs.Traces.{turned}

-- what counts up and down in the half
abbrev above : ℤ → ℕ
above z = positive_part (half z)

abbrev below : ℤ → ℕ
below z = negative_part (half z)

split : (z : ℤ) → Dif z (bit (odd z) + 2 * above z) (2 * below z)
split z =
    let d = dif_add (dif_pos (bit (odd z))) (dif_mul (dif_pos 2) (parts (half z))) in
    dif_shift _ _ (rw odd_half at d) (omega arith)

-- one bit and twice the rest are the lowest bit and the half
halves : {z h : ℤ} {u v p q : ℕ} (b : Bool) → Dif z u v → Dif h p q → u + 2 * q ≡ bit b + 2 * p + v → (odd z ≡ b) × (half z ≡ h)
halves {z} b d e same =
    let own = dif_same (split z) d in
    let first : bit (odd z) ≡ bit b = omega (arith, bit_not (odd z), bit_not b) in
    (bit_inj (odd z) b first, dif_eq (parts (half z)) e (omega arith))

pub sum_halves : (x y : ℤ) (c : Bool)
    → (odd (x +ℤ y +ℤ pos (bit c)) ≡ xor_of (xor_of (odd x) (odd y)) c) × (half (x +ℤ y +ℤ pos (bit c)) ≡ half x +ℤ half y +ℤ pos (bit (maj_of (odd x) (odd y) c)))
sum_halves x y c =
    let carried = one_place (odd x) (odd y) c in
    let rest = dif_add (dif_add (parts (half x)) (parts (half y))) (dif_pos (bit (maj_of (odd x) (odd y) c))) in
    halves (xor_of (xor_of (odd x) (odd y)) c) (dif_add (dif_add (split x) (split y)) (dif_pos (bit c))) rest (omega arith)

pub turned_halves : (z : ℤ) → (odd (turned z) ≡ not (odd z)) × (half (turned z) ≡ turned (half z))
turned_halves z =
    halves (not (odd z)) (dif_minus (dif_negsuc 0) (split z)) (dif_minus (dif_negsuc 0) (parts (half z))) (omega (arith, bit_not (odd z)))
