-- Clauses printed as DIMACS CNF are read back: the same number of variables, the same clauses. Assumes nothing.
use mathlib.Core.Path.{◌≡◌, refl, ap, ◌∙◌}
use mathlib.Core.Bool.{Bool, true, false}
use mathlib.Core.List.{List, [], ◌∷◌, ◌++◌, map, append_assoc}
use mathlib.Core.Option.{some, bind}
use Prim.Native.Nat.{ℕ, suc, ◌^◌, ◌≤◌, ◌<◌}
use native.Mathlib.Omega.{arith}
use borrow.Author.Tests.{lt-ltb, ne_eqb, eq-eqb}
use lib.Dec.{eqb}
use lib.ListN.{length}
use lib.Seq.{drop-append_seam}
use lib.IntN.{ℤ, pos, negsuc, nat_abs}
use Rattle.whole.specs.Tests.{if◌then◌otherwise◌}
use Rattle.circuit.specs.Literals.{plus, minus, Clause, slot, slots_of}
use Rattle.circuit.proofs.Bounds.{bound}
use Rattle.sheet.specs.Texts.{ascii, decimal, signed, slot_text, slot_texts, starts}
use Rattle.sheet.specs.Dimacs.{is_space, pieces, filled, words, clauses_spelt, behind_comments, line_in, read_dimacs}
use Rattle.sheet.proofs.Numerals.{Above, above_append, decimal_above, decimal_some, signed_above, signed_some, natural_back, integer_back}
use Rattle.sheet.proofs.Naming.{AllNamed}

-- ---- words

no_space : (b : ℕ) → 32 < b → is_space b ≡ false
no_space b h = rw (ne_eqb b 32 (λ e. omega arith), ne_eqb b 9 (λ e. omega arith), ne_eqb b 10 (λ e. omega arith))

-- bytes above white space, then a space, and then any text
piece_first : (s : ℕ) → is_space s ≡ true → (w rest : List ℕ) → Above 32 w → pieces (w ++ s ∷ rest) ≡ w ∷ pieces rest
unfolding pieces
piece_first s e [] rest h = rw e
piece_first s e (b ∷ w) rest h = rw (no_space b h.0, piece_first s e w rest h.1)

piece_last : (w : List ℕ) → 0 < length w → Above 32 w → pieces w ≡ w ∷ []
unfolding pieces
piece_last [] l h = absurd (omega arith)
piece_last (b ∷ []) l h = rw (no_space b h.0)
piece_last (b ∷ c ∷ w) l h = rw (no_space b h.0, piece_last (c ∷ w) (omega arith) h.1)

filled_first : (w : List ℕ) (ws : List (List ℕ)) → 0 < length w → filled (w ∷ ws) ≡ w ∷ filled ws
unfolding filled
filled_first [] ws l = absurd (omega arith)
filled_first (b ∷ w) ws l = refl

word_first : (s : ℕ) → is_space s ≡ true → (w rest : List ℕ) → 0 < length w → Above 32 w → words (w ++ s ∷ rest) ≡ w ∷ words rest
unfolding words
word_first s e w rest l h = rw (piece_first s e w rest h) (filled_first w (pieces rest) l)

none_first : (rest : List ℕ) → words (10 ∷ rest) ≡ words rest
unfolding words pieces filled
none_first rest = refl

word_last : (w : List ℕ) → 0 < length w → Above 32 w → words w ≡ w ∷ []
unfolding words filled
word_last w l h = rw (piece_last w l h) (filled_first w [] l)

-- a slot is a word
slot_words : (zs : List ℤ) → words (slot_texts zs) ≡ map signed zs
unfolding words pieces filled slot_text slot_texts
slot_words [] = refl
slot_words (z ∷ zs) = by (eqb (nat_abs z) 0) (slot_words zs)
  where
    one : (s : ℕ) → is_space s ≡ true → words (slot_texts zs) ≡ map signed zs → words (signed z ++ s ∷ [] ++ slot_texts zs) ≡ signed z ∷ map signed zs
    one s e q = ap words (append_assoc (signed z) (s ∷ []) (slot_texts zs)) ∙ word_first s e (signed z) (slot_texts zs) (signed_some z) (signed_above z) ∙ ap (λ (ws : List (List ℕ)). signed z ∷ ws) q

    by : (b : Bool) → words (slot_texts zs) ≡ map signed zs → words (signed z ++ (if b then ascii "\n" otherwise ascii " ") ++ slot_texts zs) ≡ signed z ∷ map signed zs
    by true q = one 10 refl q
    by false q = one 32 refl q

-- ---- clauses

module _ (v : ℕ) (few : v < 10 ^ 20) where
  clause_spelt : (c : Clause) (cs : List Clause) (zs : List ℤ) → bound c ≤ v → clauses_spelt v (map signed zs) ≡ some cs
      → clauses_spelt v (map signed (map slot c ++ pos 0 ∷ zs)) ≡ some (c ∷ cs)
  unfolding clauses_spelt bind
  clause_spelt [] cs zs h e = rw (e, integer_back (pos 0) (omega arith))
  clause_spelt (plus i ∷ c) cs zs h e = rw (clause_spelt c cs zs (omega arith) e, integer_back (pos (suc i)) (omega arith), lt-ltb i v (omega arith))
  clause_spelt (minus i ∷ c) cs zs h e = rw (clause_spelt c cs zs (omega arith) e, integer_back (negsuc i) (omega arith), lt-ltb i v (omega arith))

  clauses_spelt_lem : (cs : List Clause) → AllNamed v cs → clauses_spelt v (map signed (slots_of cs)) ≡ some cs
  unfolding clauses_spelt
  clauses_spelt_lem [] h = refl
  clauses_spelt_lem (c ∷ cs) h = clause_spelt c cs (slots_of cs) h.0 (clauses_spelt_lem cs h.1)

-- ---- the first line

line_first : (line rest : List ℕ) → Above 10 line → line_in (line ++ 10 ∷ rest) ≡ line
unfolding line_in
line_first [] rest h = refl
line_first (b ∷ line) rest h = rw (ne_eqb b 10 (λ e. omega (arith, h.0))) (ap (λ (l : List ℕ). b ∷ l) (line_first line rest h.1))

module _ (v n : ℕ) where
  abbrev header : List ℕ
  header = ascii "p cnf " ++ decimal v ++ ascii " " ++ decimal n

  header_above : Above 10 header
  header_above =
      let front = above_append 10 (ascii "p cnf ") (decimal v) (omega arith, (omega arith, (omega arith, (omega arith, (omega arith, (omega arith, tt)))))) (decimal_above 10 v (omega arith)) in
      above_append 10 (ascii "p cnf " ++ decimal v ++ ascii " ") (decimal n)
      (above_append 10 (ascii "p cnf " ++ decimal v) (ascii " ") front (omega arith, tt)) (decimal_above 10 n (omega arith))

  two_words : words (decimal v ++ ascii " " ++ decimal n) ≡ decimal v ∷ decimal n ∷ []
  two_words =
      ap words (append_assoc (decimal v) (ascii " ") (decimal n)) ∙ word_first 32 refl (decimal v) (decimal n) (decimal_some v) (decimal_above 32 v (omega arith))
      ∙ ap (λ (ws : List (List ℕ)). decimal v ∷ ws) (word_last (decimal n) (decimal_some n) (decimal_above 32 n (omega arith)))

  header_words : words header ≡ ascii "p" ∷ ascii "cnf" ∷ decimal v ∷ decimal n ∷ []
  unfolding words pieces filled
  header_words = ap (λ (ws : List (List ℕ)). ascii "p" ∷ ascii "cnf" ∷ ws) two_words

  -- and any text behind it that spells clauses
  header_read : (rest : List ℕ) (cs : List Clause) → v < 10 ^ 20 → n < 10 ^ 20 → clauses_spelt v (words rest) ≡ some cs → length cs ≡ n
      → read_dimacs (header ++ 10 ∷ rest) ≡ some (v, cs)
  unfolding read_dimacs behind_comments starts bind
  header_read rest cs few fewer e l =
      rw (line_first header rest header_above, header_words, natural_back v few, natural_back n fewer, drop-append_seam header (10 ∷ rest), none_first rest, e, eq-eqb (length cs) n l)

-- ---- the text

pub dimacs_back : (v : ℕ) (cs : List Clause) → v < 10 ^ 20 → length cs < 10 ^ 20 → AllNamed v cs
    → read_dimacs (header v (length cs) ++ ascii "\n" ++ slot_texts (slots_of cs)) ≡ some (v, cs)
dimacs_back v cs few fewer h =
    let text = slot_texts (slots_of cs) in
    ap read_dimacs (append_assoc (header v (length cs)) (ascii "\n") text)
    ∙ header_read v (length cs) text cs few fewer (ap (clauses_spelt v) (slot_words (slots_of cs)) ∙ clauses_spelt_lem v few cs h) refl
