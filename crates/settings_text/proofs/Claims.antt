-- What the answer of the solver text's reader comes to: a refusal's line, that none is claimed, or a byte, 0 or 1, for each variable of
-- the table. Assumes nothing.
use Rattle.std.specs.Prelude.{Ok, Err}
use mathlib.Core.Path.{◌≡◌, refl, sym, ap, ◌∙◌}
use mathlib.Core.Bool.{Bool, true, false, false≢true}
use mathlib.Core.List.{List, [], ◌∷◌}
use Prim.Native.Nat.{ℕ, zero, suc, ◌+◌, ◌<◌}
use native.Mathlib.Omega.{arith}
use borrow.Author.Tests.{le-ltb}
use lib.Dec.{eqb, ltb}
use lib.ListN.{length, take, drop}
use lib.Seq.{take_at}
use Rattle.whole.specs.Tests.{if◌then◌otherwise◌}
use Rattle.sheet.specs.declared.Refusal.{Refusal}
use Rattle.sheet.specs.Values.{every}
use Rattle.sheet.specs.Acceptance.{refusal_number, Outcome}
use Rattle.sheet.specs.Calls.{◌giving◌, left}
use Rattle.sheet.specs.Texts.{ascii, refused_line, Claim, none_claimed, model, variable_text, sign_at, signs_in, claim_in, read_claim, is_model, model_bytes}
use Rattle.sheet.proofs.Called.{refused_not, same_accepted, giving_refuses}
use Rattle.table.proofs.Buffers.{left_accepted}
use Rattle.assign.specs.Model.{are_bits}
use Rattle.sheet.proofs.Models.{told, model_claimed}
use Rattle.settings_text.specs.Replies.{Taken, Told, told_text, claim_text}
use Rattle.settings_text.proofs.Taking.{taken_few}

-- ---- the bytes that the signs tell

pub signs_many : (n k : ℕ) (text : List ℕ) → length (signs_in n k text) ≡ n
unfolding signs_in
signs_many zero k text = refl
signs_many (suc n) k text = ap suc (signs_many n (k + 1) (drop (length (variable_text (sign_at text) k)) text))

sign_bit : (text : List ℕ) → ltb (sign_at text) 2 ≡ true
unfolding sign_at
sign_bit [] = refl
sign_bit (b ∷ text) = by (eqb b 45)
  where
    by : (t : Bool) → ltb (if t then 0 otherwise 1) 2 ≡ true
    by true = refl
    by false = refl

signs_bits : (n k : ℕ) (text : List ℕ) → every (are_bits (signs_in n k text)) ≡ true
unfolding signs_in
signs_bits zero k text = refl
signs_bits (suc n) k text = rw (sign_bit text) (signs_bits n (k + 1) (drop (length (variable_text (sign_at text) k)) text))

-- ---- what is claimed, by whether a model is

answer_none : (o : Outcome Claim) → (o giving is_model) ≡ Ok false → o ≡ Ok none_claimed
answer_none (Err refusal) e = refused_not e
answer_none (Ok none_claimed) e = refl
answer_none (Ok (model bs)) e = absurd (false≢true (sym (same_accepted e)))

-- ---- a table that is gone on with, and a reader that was lent 10,000 bytes
module _ (all : Bool) (table rest : List ℕ) {n : ℕ} (taken : Taken table n) (model₀ : List ℕ) (h : length model₀ ≡ 10000) where
  few : n < 10000
  few = taken_few taken

  outcome_is : read_claim n rest (length model₀) ≡ claim_in n rest
  unfolding read_claim
  outcome_is = rw (le-ltb (length model₀) n (omega (arith, few, h)))

  abbrev answered : Outcome Bool
  answered = read_claim n rest (length model₀) giving is_model

  -- by what the claim is
  claim_is : {o : Outcome Claim} → claim_in n rest ≡ o → claim_in taken.sheet.counts.variables rest ≡ o
  claim_is e = rw taken.many at e

  pub refusal_printed : {refusal : Refusal} → answered ≡ Err refusal → claim_text all table rest ≡ refused_line (refusal_number refusal.reason) refusal.place
  unfolding claim_text
  refusal_printed e = rw (taken.is, claim_is (giving_refuses (claim_in n rest) is_model (rw outcome_is at e)))

  pub none_printed : answered ≡ Ok false → claim_text all table rest ≡ ascii "none claimed\n"
  unfolding claim_text
  none_printed e = rw (taken.is, claim_is (answer_none (claim_in n rest) (rw outcome_is at e)))

  module _ (e : answered ≡ Ok true) {after : List ℕ} (f : after ≡ left (read_claim n rest (length model₀)) model_bytes model₀) where
    model_is : claim_in n rest ≡ Ok (model (told n rest))
    model_is = (model_claimed n rest (sym (rw outcome_is at e))).outcome

    bytes_are : take n after ≡ told n rest
    bytes_are =
        let bytes = told n rest in
        ap (take n) (f ∙ sym (left_accepted model_bytes model₀ (outcome_is ∙ model_is))) ∙ take_at bytes (drop (length bytes) model₀) n (signs_many n 1 (drop 16 rest))

    pub model_told : Told table (take n after)
    model_told =
        let many : length (told n rest) ≡ n = signs_many n 1 (drop 16 rest) in
        rw bytes_are
        (record { taken = record { sheet = taken.sheet; is = taken.is; many = many ∙ taken.many }; bits = signs_bits n 1 (drop 16 rest) })

    pub model_printed : claim_text all table rest ≡ told_text all table (take n after)
    unfolding claim_text told_text
    model_printed = rw (bytes_are, taken.is, claim_is model_is)
