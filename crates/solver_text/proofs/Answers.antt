-- What the answer of the reader tells of the outcome, and what is then left in the model. Assumes nothing.
use Rattle.std.specs.Prelude.{Ok, Err}
use mathlib.Core.Path.{◌≡◌, refl, sym, ap, ◌∙◌}
use mathlib.Core.Bool.{Bool, true, false, and-eq-true_iff}
use mathlib.Core.List.{List, ◌++◌}
use Prim.Native.Nat.{ℕ, ◌-◌, ◌≤◌, ◌<◌}
use native.Mathlib.Omega.{arith}
use borrow.Author.Tests.{lt-ltb, le-ltb}
use lib.ListN.{length, take, drop, length-drop}
use lib.Seq.{drop-drop, length-take-le}
use Rattle.frame.proofs.Frames.{rest_all}
use Rattle.sheet.specs.declared.Reason.TheVariants.{ShortBuffer}
use Rattle.sheet.specs.declared.Refusal.{Refusal}
use Rattle.sheet.specs.Acceptance.{Outcome, refused}
use Rattle.sheet.specs.Calls.{◌giving◌, left}
use Rattle.sheet.specs.Texts.{ascii, Claim, none_claimed, model, variable_texts, model_line, signs_in, starts, claim_in, read_claim, is_model, model_bytes}
use Rattle.sheet.proofs.Called.{refused_not, giving_refuses}
use Rattle.sheet.proofs.Models.{told, model_claimed}
use Rattle.solver_text.proofs.Passing.{starts-append, starts_long}

pub answer_none : (o : Outcome Claim) → Ok false ≡ (o giving is_model) → o ≡ Ok none_claimed
answer_none (Err r) e = refused_not (sym e)
answer_none (Ok none_claimed) e = refl
answer_none (Ok (model bs)) e = cc

module _ (n : ℕ) (text before : List ℕ) (h : n ≤ length before) where
  -- where a model is claimed, its variables stand behind the mark
  module _ (e : Ok true ≡ (claim_in n text giving is_model)) where
    parts : (starts (ascii "v ") (drop 14 text) ≡ true) × (starts (variable_texts (told n text) 1) (drop 2 (drop 14 text)) ≡ true)
    unfolding model_line
    parts =
        (and-eq-true_iff (starts (ascii "v ") (drop 14 text)) (starts (variable_texts (told n text) 1) (drop 2 (drop 14 text)))).0
        (sym (starts-append (ascii "v ") (variable_texts (told n text) 1) (drop 14 text)) ∙ (model_claimed n text e).line)

    pub marked : 16 ≤ length text
    marked = omega (arith, starts_long (ascii "v ") (drop 14 text) parts.0, length-drop 14 text)

    pub variables_stand : let signs = take (length text - 16) (drop 16 text) in starts (variable_texts (signs_in (length (take n before)) 1 signs) 1) signs ≡ true
    variables_stand = rw (rest_all 16 text, length-take-le n before h) (rw (drop-drop) at parts.1)

module _ (n : ℕ) (text before : List ℕ) where
  abbrev outcome : Outcome Claim
  outcome = read_claim n text (length before)

  -- the answer, and the model as it is left
  abbrev Answers : Outcome Bool → List ℕ → Type 0
  Answers answer after = (answer ≡ (outcome giving is_model)) × (after ≡ left outcome model_bytes before)

  pub too_short : length before < n → Answers (refused ShortBuffer n) before
  unfolding read_claim left
  too_short h = rw (lt-ltb (length before) n h) (refl, refl)

  module _ (h : n ≤ length before) where
    judged : outcome ≡ claim_in n text
    unfolding read_claim
    judged = rw (le-ltb (length before) n h)

    pub claim_refused : (r : Refusal) → Err r ≡ (claim_in n text giving is_model) → Answers (Err r) before
    unfolding left
    claim_refused r e = rw (judged ∙ giving_refuses (claim_in n text) is_model (sym e)) (refl, refl)

    pub claim_none : Ok false ≡ (claim_in n text giving is_model) → Answers (Ok false) before
    unfolding left
    claim_none e = rw (judged ∙ answer_none (claim_in n text) e) (refl, refl)

    pub claim_model : (after : List ℕ) → length after ≡ n → Ok true ≡ (claim_in n text giving is_model) → after ≡ told n text → Answers (Ok true) (after ++ drop n before)
    unfolding left
    claim_model after long e w =
        let many : n ≡ length (told n text) = sym long ∙ ap length w in
        rw (judged ∙ (model_claimed n text e).outcome) (refl, rw (w, ← many))
