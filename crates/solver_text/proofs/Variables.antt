-- The variables of a model's line, one after the other. Assumes nothing.
use mathlib.Core.Path.{◌≡◌, refl, sym, ◌∙◌}
use mathlib.Core.Bool.{Bool, true, false, not, and-eq-true_iff}
use mathlib.Core.List.{List, [], ◌∷◌, ◌++◌, append-nil, append_assoc}
use Prim.Native.Nat.{ℕ, zero, suc, ◌+◌, ◌-◌, ◌≤◌, ◌<◌}
use native.Mathlib.Omega.{arith}
use denote.Ref.{Bor}
use mir.Val.{bool_byte}
use lib.Dec.{eqb}
use lib.ListN.{length, set, take, drop, length-append, length-set}
use lib.Seq.{take_all}
use Rattle.std.specs.Prelude.{Option, Some, None, unwrap_or, nat_eq}
use Rattle.std.specs.Option.{option_copied}
use Rattle.std.specs.List.{starts_with}
use Rattle.std.proofs.lemmas.Grind.{common_steps}
use Rattle.frame.proofs.Frames.{rest_all}
use Rattle.whole.specs.Tests.{if◌then◌otherwise◌}
use Rattle.sheet.specs.Texts.{ascii, decimal, variable_text, variable_texts, sign_at, signs_in, starts}
use Rattle.solver_text.specs.Passing.{behind}
use Rattle.solver_text.proofs.Passing.{starts-append, starts_long, swapped, behind_then, behind_is}

-- the sign in front of a text
pub sign_tested : (text : List ℕ) → bool_byte (not (starts_with nat_eq text (45 ∷ []))) ≡ sign_at text
unfolding sign_at
sign_tested [] = refl
sign_tested (b ∷ text) = by (eqb b 45) refl
  where
    by : (t : Bool) → eqb b 45 ≡ t → bool_byte (not (starts_with nat_eq (b ∷ text) (45 ∷ []))) ≡ sign_at (b ∷ text)
    by true e = rw (swapped b 45, e)
    by false e = rw (swapped b 45, e)

-- a variable stands where its number stands behind the sign, if there is one
unsigned : (text : List ℕ) (k : ℕ) → behind (variable_text (sign_at text) k) text ≡ behind (decimal k ++ 32 ∷ []) (unwrap_or (behind (45 ∷ []) text) text)
unfolding sign_at variable_text behind starts
unsigned [] k = refl
unsigned (b ∷ text) k = by (eqb b 45) refl
  where
    by : (t : Bool) → eqb b 45 ≡ t → behind (variable_text (sign_at (b ∷ text)) k) (b ∷ text) ≡ behind (decimal k ++ 32 ∷ []) (unwrap_or (behind (45 ∷ []) (b ∷ text)) (b ∷ text))
    by true e =
        let minus : behind (45 ∷ []) (b ∷ text) ≡ Some text = rw (swapped b 45, e) in
        rw (e, behind_then (45 ∷ []) (decimal k ++ 32 ∷ []) (b ∷ text), minus)
    by false e =
        let plain : behind (45 ∷ []) (b ∷ text) ≡ None = rw (swapped b 45, e) in
        rw (e, plain)

pub variable_behind : (r : Option (Bor (List ℕ))) (t : Bor (List ℕ)) (k : ℕ) → option_copied r ≡ behind (45 ∷ []) t.now
    → behind (decimal k ++ 32 ∷ []) (unwrap_or r t).now ≡ behind (variable_text (sign_at t.now) k) t.now
variable_behind None t k e = rw (unsigned t.now k, ← e)
variable_behind (Some x) t k e = rw (unsigned t.now k, ← e)

-- how long a variable is
pub length_variable : (sign k : ℕ) → length (variable_text sign k) ≡ bool_byte (nat_eq sign 0) + length (decimal k) + 1
unfolding variable_text
length_variable sign k = by (eqb sign 0)
  where
    by : (t : Bool) → length ((if t then ascii "-" otherwise []) ++ decimal k ++ 32 ∷ []) ≡ bool_byte t + length (decimal k) + 1
    by true = rw (length-append (decimal k) (32 ∷ [])) (omega arith)
    by false = rw (length-append (decimal k) (32 ∷ [])) (omega arith)

-- ---- of n variables those from k on are left of the line
module _ (n k : ℕ) (text : List ℕ) where
  abbrev pub signs_from : List ℕ
  signs_from = signs_in (n + 1 - k) k text

  abbrev pub line_from : List ℕ
  line_from = variable_texts signs_from k

  abbrev pub here : List ℕ
  here = variable_text (sign_at text) k

pub signs_more : (n k : ℕ) (text : List ℕ) → k ≤ n → signs_from n k text ≡ sign_at text ∷ signs_from n (k + 1) (drop (length (here n k text)) text)
unfolding signs_in
signs_more n k text h =
    let m : n + 1 - k ≡ suc (n + 1 - (k + 1)) = omega arith in
    rw m

pub signs_end : (n k : ℕ) (text : List ℕ) → n < k → signs_from n k text ≡ []
unfolding signs_in
signs_end n k text h =
    let m : n + 1 - k ≡ zero = omega arith in
    rw m

pub line_end : (n k : ℕ) (text : List ℕ) → n < k → line_from n k text ≡ 48 ∷ 10 ∷ []
unfolding variable_texts
line_end n k text h = rw (signs_end n k text h)

module _ (n k : ℕ) (text : List ℕ) (h : k ≤ n) where
  line_more : line_from n k text ≡ here n k text ++ line_from n (k + 1) (drop (length (here n k text)) text)
  unfolding variable_texts
  line_more = rw (signs_more n k text h)

  pub line_goes : (rest : List ℕ) → Some rest ≡ behind (here n k text) text → behind (line_from n (k + 1) rest) rest ≡ behind (line_from n k text) text
  line_goes rest e =
      rw (line_more, behind_then (here n k text) (line_from n (k + 1) (drop (length (here n k text)) text)) text, ← e, behind_is (here n k text) text rest e)

  pub line_stops : None ≡ behind (here n k text) text → None ≡ behind (line_from n k text) text
  line_stops e = rw (line_more, behind_then (here n k text) (line_from n (k + 1) (drop (length (here n k text)) text)) text, ← e)

  -- of a right line
  module _ (stands : starts (line_from n k text) text ≡ true) where
    parts : (starts (here n k text) text ≡ true) × (starts (line_from n (k + 1) (drop (length (here n k text)) text)) (drop (length (here n k text)) text) ≡ true)
    parts =
        let rest = line_from n (k + 1) (drop (length (here n k text)) text) in
        (and-eq-true_iff (starts (here n k text) text) (starts rest (drop (length (here n k text)) text))).0
        (sym (starts-append (here n k text) rest text) ∙ rw (← line_more) stands)

    pub stands_within : length (here n k text) ≤ length text
    stands_within = starts_long (here n k text) text parts.0

    pub stands_next : starts (line_from n (k + 1) (drop (length (here n k text)) text)) (drop (length (here n k text)) text) ≡ true
    stands_next = parts.1

-- ---- the signs of a right line are written, one by one: what is left of the line stands in the text, and its signs follow those written
pub record Left (all model : List ℕ) (i : ℕ) (text : List ℕ) : Type 0 where
  pub stands : starts (line_from (length model) (i + 1) text) text ≡ true
  pub signs : take i model ++ signs_from (length model) (i + 1) text ≡ all

module _ {all model : List ℕ} {i : ℕ} {text : List ℕ} (l : Left all model i text) where
  module _ {sign size : ℕ} (h : i < length model) (e : sign ≡ sign_at text) (f : size ≡ length (variable_text sign (i + 1))) where
    pub left_within : size ≤ length text
    left_within = rw (f, e) (stands_within (length model) (i + 1) text (omega arith) l.stands)

    pub left_step : Left all (set model i sign) (i + 1) (take (length text - size) (drop size text))
    left_step =
        let k : i + 1 ≤ length model = omega arith in
        let one : take (i + 1) (set model i sign) ≡ take i model ++ sign ∷ [] = grind (arith, common_steps) in
        let more = signs_more (length model) (i + 1) text k in
        let rest = signs_from (length model) (i + 1 + 1) (drop size text) in
        rw (rest_all size text) (record {
          stands = rw (length-set, f, e) (stands_next (length model) (i + 1) text k l.stands);
          signs = rw (one, length-set, append_assoc (take i model) (sign ∷ []) rest) (rw (f, e, ← more) l.signs);
        })

  pub left_none : length model ≤ i → model ≡ all
  left_none h = sym (append-nil model) ∙ (rw (signs_end (length model) (i + 1) text (omega arith), take_all i model h) at l.signs)
