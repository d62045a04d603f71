-- The cut at 65,536 bytes changes no answer: the lines end within 4,353 bytes, and a table has fewer than 10,000 variables, so that the text
-- that claims a model of it ends within 60,100 more. Assumes nothing.
use Rattle.std.specs.Prelude.{Ok, Err}
use mathlib.Core.Path.{◌≡◌, refl, sym, ap, ◌∙◌}
use mathlib.Core.Bool.{Bool, true, ◌&&◌}
use mathlib.Core.List.{List, [], ◌∷◌}
use Prim.Native.Nat.{ℕ, zero, suc, ◌+◌, ◌*◌, ◌-◌, ◌≤◌, ◌<◌}
use native.Mathlib.Decide.{dec_lt}
use native.Mathlib.Omega.{arith}
use borrow.Author.Tests.{ne_eqb}
use lib.Dec.{eqb}
use lib.ListN.{length, take, drop}
use lib.Seq.{length-take-le, take_all}
use Rattle.circuit.specs.Literals.{Assignment}
use Rattle.sheet.specs.declared.LinesFound.{LinesFound}
use Rattle.sheet.specs.Acceptance.{Outcome, Sheet}
use Rattle.sheet.specs.Calls.{◌>>=◌}
use Rattle.sheet.specs.Texts.{satisfiable, unsatisfiable, variable_text, model_line, sign_at, signs_in, starts, read_lines, claim_in}
use Rattle.sheet.specs.Programs.{input_of, sheet_in, printed, settled, reply, settings_told, values_told, settings_program, values_program}
use Rattle.sheet.proofs.Models.{variable_short, variables_short}
use Rattle.program.proofs.Cut.{drop_cut, read_cut, found_cut}
use Rattle.settings_text.specs.Uncut.{Uncut, ValuesUncut}
use Rattle.settings_text.proofs.Taking.{taken_few}
use Rattle.settings_text.proofs.Behind.{read_near}
use Rattle.settings_text.proofs.Claims.{signs_many}

-- ---- a text and its first k bytes

starts_cut : (part : List ℕ) (k : ℕ) (text : List ℕ) → length part ≤ k → starts part (take k text) ≡ starts part text
unfolding starts
starts_cut [] k text h = refl
starts_cut (a ∷ part) zero text h = absurd (omega arith)
starts_cut (a ∷ part) (suc k) [] h = refl
starts_cut (a ∷ part) (suc k) (b ∷ text) h = ap (λ (r : Bool). eqb a b && r) (starts_cut part k text (omega arith))

long_cut : (n k : ℕ) (text : List ℕ) → n < k → eqb (length (take k text)) n ≡ eqb (length text) n
long_cut n k text h = by (dec_lt k (length text))
  where
    by : Dec (k < length text) → eqb (length (take k text)) n ≡ eqb (length text) n
    by (no q) = rw (take_all k text (omega arith))
    by (yes q) =
        let l = length-take-le k text (omega arith) in
        ne_eqb (length (take k text)) n (λ e. omega (arith, l)) ∙ sym (ne_eqb (length text) n (λ e. omega arith))

sign_cut : (k : ℕ) (text : List ℕ) → 0 < k → sign_at (take k text) ≡ sign_at text
unfolding sign_at
sign_cut zero text h = absurd (omega arith)
sign_cut (suc k) [] h = refl
sign_cut (suc k) (b ∷ text) h = refl

signs_cut : (n i k : ℕ) (text : List ℕ) → i + n ≤ 10000 → 6 * n ≤ k → signs_in n i (take k text) ≡ signs_in n i text
unfolding signs_in
signs_cut zero i k text few h = refl
signs_cut (suc n) i k text few h =
    let l = length (variable_text (sign_at text) i) in
    let s = variable_short (sign_at text) i (omega arith) in
    rw (sign_cut k text (omega arith), drop_cut l k text, signs_cut n (i + 1) (k - l) (drop l text) (omega arith) (omega (arith, s)))

claim_cut : (n k : ℕ) (text : List ℕ) → n < 10000 → 60100 ≤ k → claim_in n (take k text) ≡ claim_in n text
unfolding claim_in model_line
claim_cut n k text few h =
    let bs = signs_in n 1 (drop 16 text) in
    let many = signs_many n 1 (drop 16 text) in
    let short = variables_short bs 1 (omega (arith, many)) in
    rw (starts_cut unsatisfiable k text (omega arith), long_cut 16 k text (omega arith), starts_cut satisfiable k text (omega arith), drop_cut 16 k text, signs_cut n 1 (k - 16) (drop 16 text) (omega arith) (omega arith), drop_cut 14 k text, starts_cut (model_line bs) (k - 14) (drop 14 text) (omega (arith, short, many)), long_cut (length (model_line bs)) (k - 14) (drop 14 text) (omega (arith, short, many)))

-- ---- the whole input

module _ (tell : Sheet → Assignment → List ℕ) (input : List ℕ) where
  abbrev answer_of : List ℕ → LinesFound → Outcome Sheet → Outcome (List ℕ)
  answer_of text l o = o >>= (λ sheet. claim_in sheet.counts.variables (drop l.rest text) >>= settled tell sheet)

  lines_uncut : (l : LinesFound) → read_lines true input 2048 ≡ Ok l → answer_of (input_of input) l (sheet_in (input_of input) l) ≡ answer_of input l (sheet_in input l)
  lines_uncut l e = ap (answer_of (input_of input) l) (found_cut true input l e) ∙ by (sheet_in input l) refl
    where
      by : (o : Outcome Sheet) → sheet_in input l ≡ o → answer_of (input_of input) l o ≡ answer_of input l o
      by (Err refusal) q = refl
      by (Ok sheet) q =
          let few = taken_few (record { sheet = sheet; is = q; many = refl }) in
          let near = (read_near input l e).1 in
          rw (drop_cut l.rest 65536 input, claim_cut sheet.counts.variables (65536 - l.rest) (drop l.rest input) few (omega (arith, near)))

  reply_uncut : reply tell (input_of input) ≡ reply tell input
  unfolding reply
  reply_uncut = rw (read_cut true input) (by (read_lines true input 2048) refl)
    where
      by : (o : Outcome LinesFound) → read_lines true input 2048 ≡ o
          → printed (o >>= (λ l. answer_of (input_of input) l (sheet_in (input_of input) l))) ≡ printed (o >>= (λ l. answer_of input l (sheet_in input l)))
      by (Err refusal) e = refl
      by (Ok l) e = ap printed (lines_uncut l e)

-- the cut of the input changes no answer
pub uncut : Uncut
unfolding settings_program
uncut = reply_uncut settings_told

pub values_uncut : ValuesUncut
unfolding values_program
values_uncut = reply_uncut values_told
