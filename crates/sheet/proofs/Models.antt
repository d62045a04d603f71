-- A text is read as a model exactly if it is that model in print; and a model in print is short. Assumes nothing.
use Rattle.std.specs.Prelude.{Ok}
use mathlib.Core.Path.{◌≡◌, refl, sym, ap, ap₂, ◌∙◌}
use mathlib.Core.Bool.{Bool, true, false, false≢true, and-eq-true_iff}
use mathlib.Core.List.{List, [], ◌∷◌, ◌++◌, append_assoc}
use Prim.Native.Nat.{ℕ, zero, suc, ◌+◌, ◌*◌, ◌/◌, ◌%◌, ◌≤◌, ◌<◌}
use native.Mathlib.Decide.{dec_lt}
use native.Mathlib.Omega.{arith}
use borrow.Author.Tests.{eqb-true, eq-eqb, ne_eqb, lt-ltb}
use lib.Dec.{eqb, ltb}
use lib.ListN.{length, drop, length-append}
use lib.Seq.{drop-append_seam}
use Rattle.whole.specs.Tests.{if◌then◌otherwise◌}
use Rattle.sheet.specs.declared.Reason.TheVariants.{BadClaim}
use Rattle.sheet.specs.Acceptance.{Outcome, refused}
use Rattle.sheet.specs.Calls.{◌giving◌}
use Rattle.sheet.specs.Texts.{ascii, digit, digits_in, decimal, Claim, none_claimed, model, satisfiable, unsatisfiable, variable_text, variable_texts, model_line, sign_at, signs_in, starts, model_claim, claim_in, is_model}
use Rattle.sheet.specs.Statements.{AcceptedPrinted, Bits, PrintedAccepted}
use Rattle.sheet.proofs.Called.{refused_not, same_accepted}
use Rattle.sheet.proofs.Decimals.{length_one, length_more}

-- ---- what is accepted is printed so

module _ (n : ℕ) (text : List ℕ) where
  abbrev pub told : List ℕ
  told = signs_in n 1 (drop 16 text)

  -- a model is claimed only where the text is its first line and the line of the model that the signs tell
  pub record Claimed : Type 0 where
    pub outcome : claim_in n text ≡ Ok (model told)
    pub first : starts satisfiable text ≡ true
    pub line : starts (model_line told) (drop 14 text) ≡ true
    pub whole : eqb (length (drop 14 text)) (length (model_line told)) ≡ true

  pub model_claimed : Ok true ≡ (claim_in n text giving is_model) → Claimed
  unfolding claim_in
  model_claimed e =
      let none = starts unsatisfiable text in
      let alone = eqb (length text) (length unsatisfiable) in
      let line = starts (model_line told) (drop 14 text) in
      let whole = eqb (length (drop 14 text)) (length (model_line told)) in
      let (o, f, l, w) = by none alone (starts satisfiable text) line whole e in
      record { outcome = o; first = f; line = l; whole = w }
    where
      claim : (u v w x y : Bool) → Outcome Claim
      claim u v w x y =
          if u then if v then Ok none_claimed otherwise refused BadClaim 1 otherwise
          if w then if x then if y then Ok (model told) otherwise refused BadClaim 2 otherwise refused BadClaim 1 otherwise
          refused BadClaim 0

      by : (u v w x y : Bool) → Ok true ≡ (claim u v w x y giving is_model) → (claim u v w x y ≡ Ok (model told)) × (w ≡ true) × (x ≡ true) × (y ≡ true)
      by true true w x y e = absurd (false≢true (sym (same_accepted e)))
      by true false w x y e = refused_not (sym e)
      by false v true true true e = (refl, refl, refl, refl)
      by false v true true false e = refused_not (sym e)
      by false v true false y e = refused_not (sym e)
      by false v false x y e = refused_not (sym e)

-- p stands in front of the text
front_part : (p text : List ℕ) → starts p text ≡ true → text ≡ p ++ drop (length p) text
unfolding starts
front_part [] text e = refl
front_part (a ∷ p) [] e = absurd (false≢true e)
front_part (a ∷ p) (b ∷ text) e =
    let (same, rest) = (and-eq-true_iff (eqb a b) (starts p text)).0 e in
    ap₂ ◌∷◌ (sym (eqb-true a b same)) (front_part p text rest)

-- p stands in front of a text that is as long
exact : (p text : List ℕ) → starts p text ≡ true → length text ≡ length p → text ≡ p
unfolding starts
exact [] [] e l = refl
exact [] (b ∷ text) e l = absurd (omega arith)
exact (a ∷ p) [] e l = absurd (omega arith)
exact (a ∷ p) (b ∷ text) e l =
    let (same, rest) = (and-eq-true_iff (eqb a b) (starts p text)).0 e in
    ap₂ ◌∷◌ (sym (eqb-true a b same)) (exact p text rest (omega arith))

pub accepted_printed : AcceptedPrinted
accepted_printed n text bs e =
    let c : Claimed n text = model_claimed n text (rw e) in
    let same : told n text ≡ bs = let q = sym c.outcome ∙ e in cc in
    let line = exact (model_line (told n text)) (drop 14 text) c.line (eqb-true _ _ c.whole) in
    front_part satisfiable text c.first ∙ rw (← same) (ap (λ (t : List ℕ). satisfiable ++ t) line)

-- ---- what is printed is accepted

digit_sign : (n : ℕ) (text : List ℕ) → sign_at (digit (n % 10) ∷ text) ≡ 1
unfolding sign_at
digit_sign n text = rw (lt-ltb (n % 10) 10 (omega arith), ne_eqb (48 + n % 10) 45 (λ e. omega arith))

-- a number does not begin with a minus
lead : (b : Bool) (ds : List ℕ) (n : ℕ) (text : List ℕ) → ((rest : List ℕ) → sign_at (ds ++ rest) ≡ 1)
    → sign_at (((if b then [] otherwise ds) ++ digit (n % 10) ∷ []) ++ text) ≡ 1
lead true ds n text h = digit_sign n text
lead false ds n text h = rw (append_assoc ds (digit (n % 10) ∷ []) text) (h (digit (n % 10) ∷ text))

number_sign : (k n : ℕ) (text : List ℕ) → sign_at (digits_in (suc k) n ++ text) ≡ 1
unfolding digits_in
number_sign zero n text = last (ltb n 10)
  where
    last : (b : Bool) → sign_at (((if b then [] otherwise []) ++ digit (n % 10) ∷ []) ++ text) ≡ 1
    last true = digit_sign n text
    last false = digit_sign n text
number_sign (suc k) n text = lead (ltb n 10) (digits_in (suc k) (n / 10)) n text (λ rest. number_sign k (n / 10) rest)

variable_sign : (b k : ℕ) (text : List ℕ) → b ≤ 1 → sign_at (variable_text b k ++ text) ≡ b
unfolding variable_text sign_at decimal
variable_sign zero k text h = refl
variable_sign (suc zero) k text h = rw (append_assoc (digits_in 20 k) (32 ∷ []) text) (number_sign 19 k (32 ∷ text))
variable_sign (suc (suc b)) k text h = absurd (omega arith)

-- the signs of a model's line tell the model
signs_back : (bs : List ℕ) (k : ℕ) → Bits bs → signs_in (length bs) k (variable_texts bs k) ≡ bs
unfolding signs_in variable_texts
signs_back [] k h = refl
signs_back (b ∷ bs) k h =
    rw (variable_sign b k (variable_texts bs (k + 1)) h.0, drop-append_seam (variable_text b k) (variable_texts bs (k + 1)), signs_back bs (k + 1) h.1)

starts_self : (p : List ℕ) → starts p p ≡ true
unfolding starts
starts_self [] = refl
starts_self (a ∷ p) = rw (eq-eqb a a refl) (starts_self p)

right_line : (bs : List ℕ) → model_claim bs (model_line bs) ≡ Ok (model bs)
right_line bs = rw (starts_self (model_line bs), eq-eqb (length (model_line bs)) (length (model_line bs)) refl)

pub printed_accepted : PrintedAccepted
unfolding claim_in starts model_line
printed_accepted bs h = rw (signs_back bs 1 h) (right_line bs)

-- ---- how long a model's line is

one_digit_more : (m d : ℕ) → m < 10000 → 0 < d → ((n : ℕ) → n < m → length (decimal n) ≤ d) → (n : ℕ) → n < 10 * m → length (decimal n) ≤ d + 1
one_digit_more m d few some h n k = by (dec_lt n 10)
  where
    by : Dec (n < 10) → length (decimal n) ≤ d + 1
    by (yes q) = omega (arith, length_one n q)
    by (no q) = omega (arith, length_more n (omega arith) (omega arith), h (n / 10) (omega arith))

four_digits : (n : ℕ) → n < 10000 → length (decimal n) ≤ 4
four_digits n h =
    let two = one_digit_more 10 1 (omega arith) (omega arith) (λ i q. omega (arith, length_one i q)) in
    let three = one_digit_more 100 2 (omega arith) (omega arith) two in
    one_digit_more 1000 3 (omega arith) (omega arith) three n h

pub variable_short : (b k : ℕ) → k < 10000 → length (variable_text b k) ≤ 6
unfolding variable_text
variable_short b k h = by (eqb b 0)
  where
    by : (t : Bool) → length ((if t then ascii "-" otherwise []) ++ decimal k ++ ascii " ") ≤ 6
    by true = omega (arith, length-append (decimal k) (ascii " "), four_digits k h)
    by false = omega (arith, length-append (decimal k) (ascii " "), four_digits k h)

pub variables_short : (bs : List ℕ) (k : ℕ) → k + length bs ≤ 10000 → length (variable_texts bs k) ≤ 6 * length bs + 2
unfolding variable_texts
variables_short [] k h = omega arith
variables_short (b ∷ bs) k h =
    rw (length-append (variable_text b k) (variable_texts bs (k + 1))) (omega (arith, variable_short b k (omega arith), variables_short bs (k + 1) (omega arith)))
