-- The bits of a constant, one after the other. Assumes nothing.
use Rattle.std.proofs.Common.{◌≡◌, refl, ◌∙◌, ℕ, zero, suc, ◌+◌, ◌-◌, ◌%◌, ◌<◌, Bool, not, eqb, List, [], ◌∷◌, ◌++◌, map, append_assoc, arith, ℤ, pos, negsuc, neg_ℤ, of_z, to_z, w64}
use Rattle.std.proofs.lemmas.Int.{to_z-of_z}
use Rattle.std.proofs.lemmas.Bool.Decides.{nat_tests}
use Rattle.std.specs.Int.Signed.{shr_z, rem_z, mag_shr}
use Rattle.std.specs.Int.RustNames.{FitsSigned}
use Rattle.whole.specs.Bits.{odd, half, bits_of}
use Rattle.circuit.specs.Literals.{Lit, known}

-- the rest of a negative number has its sign
turned : (a b : ℕ) → a + b ≡ 1 → not (eqb (of_z w64 (neg_ℤ (pos b))) 0) ≡ not (eqb a 1)
turned zero b h = let e : b ≡ 1 = omega arith in rw e
turned (suc a) b h =
    let e : b ≡ 0 = omega arith in
    let f : a ≡ 0 = omega arith in
    rw (e, f)

-- what the code tests
pub odd_is : (z : ℤ) → not (eqb (of_z w64 (rem_z z (pos 2))) 0) ≡ odd z
odd_is (pos n) = grind (arith, nat_tests)
odd_is (negsuc n) = turned (n % 2) (suc n % 2) (omega arith)

half_is : (z : ℤ) → shr_z z 2 ≡ half z
half_is (pos n) = refl
half_is (negsuc n) = refl

-- and what it shifts
pub halved : (z : ℤ) → FitsSigned w64 z → to_z w64 (of_z w64 (shr_z z 2)) ≡ half z
halved z h = to_z-of_z w64 (shr_z z 2) (record { sfits = omega (arith, mag_shr z 2) }) ∙ half_is z

-- one bit more
pub bits_more : (done : List Lit) (to i : ℕ) (z : ℤ) {b : Bool} {rest : ℤ} → i < to → b ≡ odd z → rest ≡ half z
    → (done ++ known b ∷ []) ++ map known (bits_of (to - (i + 1)) rest) ≡ done ++ map known (bits_of (to - i) z)
bits_more done to i z h e f =
    let g : to - i ≡ suc (to - (i + 1)) = omega arith in
    rw (e, f, g) (append_assoc done (known (odd z) ∷ []) (map known (bits_of (to - (i + 1)) (half z))))
