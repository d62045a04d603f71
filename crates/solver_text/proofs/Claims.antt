-- What the steps through a solver's text tell of its claim. Assumes nothing.
use mathlib.Core.Path.{◌≡◌, refl, sym, ◌∙◌}
use mathlib.Core.Bool.{Bool, true, false}
use mathlib.Core.List.{List, ◌++◌}
use Prim.Native.Nat.{ℕ, ◌+◌, ◌-◌, ◌≤◌}
use native.Mathlib.Omega.{arith}
use borrow.Author.Tests.{eq-eqb, ne_eqb}
use lib.Dec.{eqb}
use lib.ListN.{length, drop, length-drop}
use lib.Seq.{drop-drop}
use Rattle.std.specs.Prelude.{Option, Some, None, Ok}
use Rattle.std.specs.Option.{option_and_then}
use Rattle.std.proofs.lemmas.Bool.Decides.{nat_tests}
use Rattle.whole.specs.Tests.{if◌then◌otherwise◌}
use Rattle.sheet.specs.declared.Reason.TheVariants.{BadClaim}
use Rattle.sheet.specs.Acceptance.{Outcome, refused}
use Rattle.sheet.specs.Calls.{◌giving◌}
use Rattle.sheet.specs.Texts.{ascii, Claim, none_claimed, model, satisfiable, unsatisfiable, variable_texts, model_line, signs_in, starts, model_claim, claim_in, is_model}
use Rattle.solver_text.specs.Passing.{behind, alone}
use Rattle.solver_text.proofs.Passing.{starts_long, behind_then, behind_is, there, not_there}

pub line_behind : (bs text : List ℕ) → behind (model_line bs) text ≡ option_and_then (behind (variable_texts bs 1)) (behind (ascii "v ") text)
unfolding model_line
line_behind bs text = behind_then (ascii "v ") (variable_texts bs 1) text

-- a text is as long as what it begins with exactly if nothing stands behind
nothing_behind : (p text : List ℕ) → starts p text ≡ true → eqb (length text) (length p) ≡ eqb (length (drop (length p) text)) 0
nothing_behind p text e =
    let h = starts_long p text e in
    rw length-drop (grind (arith, nat_tests))

abbrev claim : Bool → Claim → ℕ → Outcome Claim
claim b c line = if b then Ok c otherwise refused BadClaim line

told : (b : Bool) (c : Claim) (line : ℕ) → (claim b c line giving is_model) ≡ (if b then Ok (is_model c) otherwise refused BadClaim line)
told true c line = refl
told false c line = refl

module _ (n : ℕ) (text : List ℕ) where
  pub none_there : (rest : List ℕ) → Some rest ≡ behind unsatisfiable text → (claim_in n text giving is_model) ≡ alone rest false 1
  unfolding claim_in
  none_there rest e =
      let (here, what) = there unsatisfiable text rest e in
      rw (here, what, nothing_behind unsatisfiable text here) (told (eqb (length (drop 16 text)) 0) none_claimed 1)

  module _ (none : None ≡ behind unsatisfiable text) where
    pub first_wrong : None ≡ behind satisfiable text → (claim_in n text giving is_model) ≡ refused BadClaim 0
    unfolding claim_in
    first_wrong e = rw (not_there unsatisfiable text none, not_there satisfiable text e)

    module _ (line : List ℕ) (some : Some line ≡ behind satisfiable text) where
      some_claimed : claim_in n text ≡ model_claim (signs_in n 1 (drop 2 line)) line
      unfolding claim_in
      some_claimed =
          let (here, what) = there satisfiable text line some in
          rw (not_there unsatisfiable text none, here, what, drop-drop)

      pub line_wrong : None ≡ behind (model_line (signs_in n 1 (drop 2 line))) line → (claim_in n text giving is_model) ≡ refused BadClaim 1
      line_wrong e = rw (some_claimed, not_there (model_line (signs_in n 1 (drop 2 line))) line e)

      pub line_there : (rest : List ℕ) → Some rest ≡ behind (model_line (signs_in n 1 (drop 2 line))) line → (claim_in n text giving is_model) ≡ alone rest true 2
      line_there rest e =
          let bs = signs_in n 1 (drop 2 line) in
          let (here, what) = there (model_line bs) line rest e in
          rw (some_claimed, here, what, nothing_behind (model_line bs) line here) (told (eqb (length (drop (length (model_line bs)) line)) 0) (model bs) 2)
