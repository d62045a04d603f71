-- A number in print is read back as the number, and its bytes stand above those of white space. Assumes nothing.
use mathlib.Core.Path.{◌≡◌, refl, ap, ◌∙◌}
use mathlib.Core.Bool.{Bool, true, false}
use mathlib.Core.List.{List, [], ◌∷◌, ◌++◌}
use mathlib.Core.Option.{none, some, map, bind}
use Prim.Native.Nat.{ℕ, zero, suc, ◌+◌, ◌*◌, ◌/◌, ◌%◌, ◌^◌, ◌<◌}
use native.Mathlib.Omega.{arith}
use borrow.Author.Tests.{lt-ltb, le-ltb, ne_eqb, ltb-true}
use lib.Dec.{ltb}
use lib.ListN.{length, length-append}
use lib.IntN.{ℤ, pos, negsuc, neg_ℤ, nat_abs}
use Rattle.whole.specs.Tests.{if◌then◌otherwise◌}
use Rattle.sheet.specs.Texts.{digit, nibble, digits_in, decimal, signed}
use Rattle.sheet.specs.Dimacs.{digits_behind, natural, integer}
use Rattle.sheet.proofs.Lines.{digit_back}

-- bytes above a mark
abbrev pub Above : ℕ → List ℕ → Type 0
Above m [] = Unit {0}
Above m (b ∷ bs) = (m < b) × Above m bs

pub above_append : (m : ℕ) (xs ys : List ℕ) → Above m xs → Above m ys → Above m (xs ++ ys)
above_append m [] ys h k = k
above_append m (x ∷ xs) ys h k = (h.0, above_append m xs ys h.1 k)

digits_above : (m k n : ℕ) → m < 48 → Above m (digits_in k n)
unfolding digits_in
digits_above m zero n h = tt
digits_above m (suc k) n h = by (ltb n 10) (digits_above m k (n / 10) h)
  where
    last : Above m (digit (n % 10) ∷ [])
    last = rw (lt-ltb (n % 10) 10 (omega arith)) (omega arith, tt)

    by : (b : Bool) → Above m (digits_in k (n / 10)) → Above m ((if b then [] otherwise digits_in k (n / 10)) ++ digit (n % 10) ∷ [])
    by true q = last
    by false q = above_append m (digits_in k (n / 10)) (digit (n % 10) ∷ []) q last

pub decimal_above : (m n : ℕ) → m < 48 → Above m (decimal n)
unfolding decimal
decimal_above m n h = digits_above m 20 n h

pub signed_above : (z : ℤ) → Above 32 (signed z)
unfolding signed
signed_above (pos n) = rw (le-ltb n 0 (omega arith)) (decimal_above 32 n (omega arith))
signed_above (negsuc n) = (omega arith, decimal_above 32 (suc n) (omega arith))

-- and there are some
pub decimal_some : (n : ℕ) → 0 < length (decimal n)
unfolding decimal digits_in
decimal_some n =
    let front = if ltb n 10 then [] otherwise digits_in 19 (n / 10) in
    rw (length-append front (digit (n % 10) ∷ [])) (omega arith)

pub signed_some : (z : ℤ) → 0 < length (signed z)
unfolding signed
signed_some (pos n) = rw (le-ltb n 0 (omega arith)) (decimal_some n)
signed_some (negsuc n) = omega arith

-- ---- read back

behind-append : (n : ℕ) (xs ys : List ℕ) → digits_behind n (xs ++ ys) ≡ bind (digits_behind n xs) (λ m. digits_behind m ys)
unfolding digits_behind bind
behind-append n [] ys = refl
behind-append n (x ∷ xs) ys = by (ltb (nibble x) 10) (behind-append (n * 10 + nibble x) xs ys)
  where
    by : (b : Bool) → digits_behind (n * 10 + nibble x) (xs ++ ys) ≡ bind (digits_behind (n * 10 + nibble x) xs) (λ m. digits_behind m ys)
        → (if b then digits_behind (n * 10 + nibble x) (xs ++ ys) otherwise none) ≡ bind (if b then digits_behind (n * 10 + nibble x) xs otherwise none) (λ m. digits_behind m ys)
    by true q = q
    by false q = refl

one_behind : (m d : ℕ) → d < 10 → digits_behind m (digit d ∷ []) ≡ some (m * 10 + d)
unfolding digits_behind
one_behind m d h = rw (digit_back d (omega arith), lt-ltb d 10 h)

digits_back : (k n : ℕ) → n < 10 ^ k → digits_behind 0 (digits_in k n) ≡ some n
unfolding digits_behind digits_in bind
digits_back zero n h = ap some (omega arith)
digits_back (suc k) n h = by (ltb n 10) refl (digits_back k (n / 10) (omega arith))
  where
    by : (b : Bool) → ltb n 10 ≡ b → digits_behind 0 (digits_in k (n / 10)) ≡ some (n / 10)
        → digits_behind 0 ((if b then [] otherwise digits_in k (n / 10)) ++ digit (n % 10) ∷ []) ≡ some n
    by true e q = one_behind 0 (n % 10) (omega arith) ∙ ap some (omega (arith, ltb-true n 10 e))
    by false e q = rw (behind-append 0 (digits_in k (n / 10)) (digit (n % 10) ∷ []), q) (one_behind (n / 10) (n % 10) (omega arith) ∙ ap some (omega arith))

-- a number of at most 20 digits
pub natural_back : (n : ℕ) → n < 10 ^ 20 → natural (decimal n) ≡ some n
unfolding natural decimal
natural_back n h = rw (ne_eqb (length (digits_in 20 n)) 0 (λ e. omega (arith, decimal_some n))) (digits_back 20 n h)

no_minus : (bs : List ℕ) → Above 45 bs → integer bs ≡ map pos (natural bs)
unfolding integer natural
no_minus [] h = refl
no_minus (b ∷ bs) h = rw (ne_eqb b 45 (λ e. omega (arith, h.0)))

pub integer_back : (z : ℤ) → nat_abs z < 10 ^ 20 → integer (signed z) ≡ some z
unfolding integer signed
integer_back (pos n) h = rw (le-ltb n 0 (omega arith)) (no_minus (decimal n) (decimal_above 45 n (omega arith)) ∙ ap (map pos) (natural_back n h))
integer_back (negsuc n) h = ap (map (λ (m : ℕ). neg_ℤ (pos m))) (natural_back (suc n) h)
