-- The pieces of the texts in print: their parts, their lengths, and that one after the other they are the paper's texts. Assumes nothing.
use mathlib.Core.Path.{◌≡◌, refl, sym, ap, ◌∙◌}
use mathlib.Core.Bool.{Bool, true, false}
use mathlib.Core.List.{List, [], ◌∷◌, ◌++◌, append-nil, append_assoc, map}
use Prim.Native.Nat.{ℕ, zero, suc, ◌+◌, ◌-◌, ◌≤◌, ◌<◌}
use native.Mathlib.Omega.{arith}
use borrow.Author.Tests.{eq-eqb, ne_eqb, lt-ltb, le-ltb}
use lib.Dec.{eqb}
use lib.IntN.{ℤ, pos, nat_abs}
use lib.ListN.{length, get_or, length-append, length-map}
use Rattle.whole.specs.Tests.{if◌then◌otherwise◌}
use Rattle.frame.specs.Frame.{front}
use Rattle.frame.proofs.Frames.{over_zero}
use Rattle.sheet.specs.Acceptance.{Sheet}
use Rattle.sheet.specs.Steps.{slots_for}
use Rattle.sheet.specs.Texts.{ascii, decimal, signed, slot_text, slot_texts, dimacs, refused_line}
use Rattle.print.specs.Put.{Put}
use Rattle.print.specs.Pages.{joined, fitting, page_text}
use Rattle.print.specs.Pieces.{pair_line, dimacs_pieces, DimacsPages}
use Rattle.sheet.proofs.Decimals.{length-decimal, length-signed}
use Rattle.print.proofs.Pages.{all_pages}

-- ---- a text that is one piece

module _ (text out₀ : List ℕ) where
  pub piece_none : length out₀ < 64 → page_text (text ∷ []) (length out₀) ≡ []
  unfolding page_text joined fitting
  piece_none h = rw (lt-ltb (length out₀) 64 h)

  pub piece_whole : 64 ≤ length out₀ → page_text (text ∷ []) (length out₀) ≡ text
  unfolding page_text joined fitting
  piece_whole h = rw (le-ltb (length out₀) 64 h) (append-nil text)

  -- nothing is printed, or the text is put in front
  pub not_printed : length out₀ < 64 → (0 ≡ length (page_text (text ∷ []) (length out₀))) × (out₀ ≡ front (page_text (text ∷ []) (length out₀)) out₀)
  unfolding front
  not_printed h = rw (piece_none h) (refl, refl)

  pub all_printed : 64 ≤ length out₀ → {out : List ℕ} {end : ℕ} → Put text 0 out₀ out end
      → (end ≡ length (page_text (text ∷ []) (length out₀))) × (out ≡ front (page_text (text ∷ []) (length out₀)) out₀)
  all_printed h p = rw (piece_whole h) (p.place ∙ omega arith, p.bytes ∙ over_zero text out₀)

-- ---- lines of numbers

pub pair_parts : (word : List ℕ) (m n : ℕ) → word ++ (decimal m ++ 32 ∷ []) ++ (decimal n ++ 10 ∷ []) ≡ pair_line word m n
unfolding pair_line
pair_parts word m n = simp append_assoc

pub length_pair : (word : List ℕ) (m n : ℕ) → length (pair_line word m n) ≤ length word + 42
length_pair word m n = rw (sym (pair_parts word m n)) (simp length-append (omega (arith, length-decimal m, length-decimal n)))

-- ---- slots

pub slot_zero : (z : ℤ) → nat_abs z ≡ 0 → slot_text z ≡ signed z ++ 10 ∷ []
unfolding slot_text
slot_zero z e = rw (eq-eqb (nat_abs z) 0 e)

pub slot_other : (z : ℤ) → (nat_abs z ≡ 0 → ⊥) → slot_text z ≡ signed z ++ 32 ∷ []
unfolding slot_text
slot_other z e = rw (ne_eqb (nat_abs z) 0 e)

pub length-slot : (z : ℤ) → length (slot_text z) ≤ 22
unfolding slot_text
length-slot z = by (eqb (nat_abs z) 0)
  where
    by : (b : Bool) → length (signed z ++ (if b then ascii "\n" otherwise ascii " ")) ≤ 22
    by true = rw (length-append (signed z) (10 ∷ [])) (omega (arith, length-signed z))
    by false = rw (length-append (signed z) (32 ∷ [])) (omega (arith, length-signed z))

slot_at : (slots : List ℤ) (i : ℕ) → i < length slots → get_or (map slot_text slots) i [] ≡ slot_text (get_or slots i (pos 0))
slot_at [] i h = absurd (omega arith)
slot_at (z ∷ slots) zero h = refl
slot_at (z ∷ slots) (suc i) h = slot_at slots i (omega arith)

-- ---- DIMACS text

module _ (variables clauses : ℕ) (slots : List ℤ) where
  abbrev pieces : List (List ℕ)
  pieces = dimacs_pieces variables clauses slots

  pub dimacs_many : length pieces ≡ length slots + 1
  unfolding dimacs_pieces
  dimacs_many = rw (length-map slots slot_text) (omega arith)

  pub dimacs_first : (next : ℕ) → next ≡ 0 → get_or pieces next [] ≡ pair_line (ascii "p cnf ") variables clauses
  unfolding dimacs_pieces
  dimacs_first next e = rw e

  pub dimacs-slot : (next : ℕ) → (next ≡ 0 → ⊥) → next ≤ length slots → get_or pieces next [] ≡ slot_text (get_or slots (next - 1) (pos 0))
  unfolding dimacs_pieces
  dimacs-slot zero e h = absurd (e refl)
  dimacs-slot (suc i) e h =
      let d : suc i - 1 ≡ i = omega arith in
      rw d (slot_at slots i h)

  pub dimacs_short : (next : ℕ) → next ≤ length slots → length (get_or pieces next []) ≤ 64
  dimacs_short zero h = rw (dimacs_first 0 refl) (omega (arith, length_pair (ascii "p cnf ") variables clauses))
  dimacs_short (suc i) h = rw (dimacs-slot (suc i) (λ e. omega arith) h) (omega (arith, length-slot (get_or slots (suc i - 1) (pos 0))))

slots_joined : (slots : List ℤ) → joined (map slot_text slots) ≡ slot_texts slots
unfolding joined slot_texts
slots_joined [] = refl
slots_joined (z ∷ slots) = ap (λ (t : List ℕ). slot_text z ++ t) (slots_joined slots)

pub dimacs_joined : (sheet : Sheet) → joined (dimacs_pieces sheet.counts.variables sheet.counts.clauses (slots_for sheet.rows)) ≡ dimacs sheet
unfolding joined dimacs_pieces dimacs pair_line
dimacs_joined sheet = ap (λ (t : List ℕ). pair_line (ascii "p cnf ") sheet.counts.variables sheet.counts.clauses ++ t) (slots_joined (slots_for sheet.rows))

pub dimacs_pages : DimacsPages
dimacs_pages sheet k room h l =
    let slots = slots_for sheet.rows in
    all_pages k 0 (dimacs_pieces sheet.counts.variables sheet.counts.clauses slots) room h (omega (arith, dimacs_many sheet.counts.variables sheet.counts.clauses slots))
    ∙ dimacs_joined sheet

-- a refusal's line
pub refused_pair : (number place : ℕ) → pair_line (ascii "refused ") number place ≡ refused_line number place
unfolding pair_line refused_line
refused_pair number place = refl
