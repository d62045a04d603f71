-- Numbers as the toolchain's library prints them are the paper's. Assumes nothing.
use mathlib.Core.Path.{◌≡◌, refl, sym, ap, ◌∙◌}
use mathlib.Core.List.{List, ◌∷◌}
use Prim.Native.Nat.{ℕ, suc, ◌%◌, ◌^◌, ◌<◌}
use native.Mathlib.Omega.{arith}
use borrow.Author.Tests.{lt-ltb, le-ltb}
use lib.IntN.{ℤ, pos, negsuc}
use lib.Signed.{mag}
use Rattle.std.specs.Fmt as Fmt
use Rattle.std.proofs.lemmas.Fmt.{AppendsLastDigit, decimal_from_appends, length-decimal-le}
use Rattle.sheet.specs.Texts.{digits_in, decimal, signed}
use Rattle.sheet.proofs.Decimals.{signed_minus, signed_plain}

appends : AppendsLastDigit digits_in
unfolding digits_in
appends = record {
  one = λ k n h. let e : n % 10 ≡ n = omega arith in rw (lt-ltb n 10 h, e, lt-ltb n 10 h);
  more = λ k n h. rw (le-ltb n 10 h, lt-ltb (n % 10) 10 (omega arith));
}

pub decimal_printed : (n : ℕ) → n < 2 ^ 64 → Fmt.decimal n ≡ decimal n
unfolding decimal
decimal_printed n h = sym (decimal_from_appends digits_in appends 20 n h (length-decimal-le 20 n (omega arith) (omega arith) h))

pub signed_printed : (z : ℤ) → mag z < 2 ^ 63 → Fmt.signed_decimal z ≡ signed z
signed_printed (pos n) h = decimal_printed n (omega arith) ∙ sym (signed_plain (pos n) (le-ltb n 0 (omega arith)))
signed_printed (negsuc n) h = ap (λ (t : List ℕ). 45 ∷ t) (decimal_printed (suc n) (omega arith)) ∙ sym (signed_minus (negsuc n) refl)
