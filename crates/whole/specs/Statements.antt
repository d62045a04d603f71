-- What is proved of these definitions: which numbers bits hold, the fewest bits, divisors and multiples. Assumes nothing.
use Rattle.std.specs.Prelude.{◌≡◌, Bool, List, ℕ, ◌≤◌, ◌<◌, length, ℤ}
use Rattle.whole.specs.Bits.{to_int, Fits, bits_of, fewest, extended}
use Rattle.whole.specs.Divisors.{gcd, lcm, IsGcd, IsLcm}

-- k bits hold exactly the numbers that fit: whatever bits they are, they stand for such a number; each such number is what its own bits
-- stand for, and no other k bits stand for it
pub record Hold (k : ℕ) : Type 0 where
  pub such : (bs : List Bool) → length bs ≡ k → Fits k (to_int bs)
  pub each : (z : ℤ) → Fits k z → (length (bits_of k z) ≡ k) × (to_int (bits_of k z) ≡ z)
  pub once : (bs cs : List Bool) → length bs ≡ k → length cs ≡ k → to_int bs ≡ to_int cs → bs ≡ cs

abbrev pub BitsHold : Type 0
BitsHold = (k : ℕ) → 0 < k → Hold k

-- a sign repeated changes no number
abbrev pub ExtendedSame : Type 0
ExtendedSame = (w : ℕ) (bs : List Bool) → to_int (extended w bs) ≡ to_int bs

-- k bits hold z, and no fewer do
pub record IsFewest (z : ℤ) (k : ℕ) : Type 0 where
  pub some : 0 < k
  pub fits : Fits k z
  pub least : (j : ℕ) → 0 < j → Fits j z → k ≤ j

abbrev pub FewestIs : Type 0
FewestIs = (z : ℤ) → IsFewest z (fewest z)

-- Euclid's rule gives the greatest common divisor, and from it comes the least common multiple
abbrev pub GcdIs : Type 0
GcdIs = (a b : ℕ) → IsGcd a b (gcd a b)

abbrev pub LcmIs : Type 0
LcmIs = (a b : ℕ) → 0 < a → IsLcm a b (lcm a b)
