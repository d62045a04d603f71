-- Numbers that fit 48 bits, and their sums and differences, fit a word of 64; what is put into a word is read back. Assumes nothing.
use mathlib.Core.Path.{◌≡◌, ap, ◌∙◌}
use Prim.Native.Nat.{ℕ, ◌-◌, ◌≤◌, ◌<◌}
use native.Mathlib.Omega.{arith}
use native.Mathlib.Nat.{lt_of_lt_of_le}
use lib.IntN.{ℤ, ◌+ℤ◌, ◌-ℤ◌}
use lib.Pow.{pow_mono}
use lib.Signed.{mag}
use mir.Syntax.{w64}
use mir.Val.{SFits, to_z, of_z}
use mir.Facts.{to_z-of_z}
use Rattle.whole.specs.Bits.{Fits}
use Rattle.whole.proofs.Bits.{fits_iff}
use Rattle.whole.proofs.Ranges.{sum_fits, difference_fits}

pub kept : (z : ℤ) → mag z < 9223372036854775808 → to_z w64 (of_z w64 z) ≡ z
kept z h = to_z-of_z {w = w64} {z = z} (record { sfits = h })

fits_word : {k : ℕ} {z : ℤ} → k ≤ 64 → Fits k z → SFits w64 z
fits_word {k} h f = record { sfits = lt_of_lt_of_le (fits_iff.0 f) (pow_mono {i = k - 1} {j = 63} (omega arith)) }

-- a number that is known to fit
pub kept_fit : {x z : ℤ} → x ≡ z → Fits 48 z → to_z w64 (of_z w64 x) ≡ z
kept_fit e f = ap (λ y. to_z w64 (of_z w64 y)) e ∙ to_z-of_z (fits_word (omega arith) f)

module _ {a b : ℤ} (p : Fits 48 a) (q : Fits 48 b) where
  pub kept_sum : to_z w64 (of_z w64 (a +ℤ b)) ≡ a +ℤ b
  kept_sum = to_z-of_z (fits_word (omega arith) (sum_fits (omega arith) (omega arith) p q))

  pub kept_difference : to_z w64 (of_z w64 (a -ℤ b)) ≡ a -ℤ b
  kept_difference = to_z-of_z (fits_word (omega arith) (difference_fits (omega arith) (omega arith) p q))
