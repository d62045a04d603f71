-- DIMACS CNF, read by the format's own rules, whoever wrote it: comment lines, which begin with `c`; a line `p cnf VARIABLES CLAUSES`; then
-- whole numbers with white space between them, each a variable, with a minus where it is negated, or the 0 that ends a clause. A text
-- that is not so is `none`. Assumes nothing.
use Rattle.std.specs.Prelude.{Bool, true, false, not, ◌&&◌, ◌||◌, List, [], ◌∷◌, ℕ, zero, suc, ◌+◌, ◌*◌, eqb, ltb, length, get_or, drop, ℤ, pos, negsuc, neg_ℤ}
use Rattle.std.proofs.Math.Option.{Option, none, some, map, bind as ◌>>=◌}
use Rattle.whole.specs.Tests.{if◌then◌otherwise◌}
use Rattle.circuit.specs.Literals.{plus, minus, Clause}
use Rattle.sheet.specs.Texts.{ascii, nibble, starts}

-- a text in pieces: a blank, a tab or a line feed ends one; words are the pieces that are not empty
abbrev pub is_space : ℕ → Bool
is_space b = eqb b 32 || eqb b 9 || eqb b 10

abbrev pub cut : (space : Bool) → ℕ → List (List ℕ) → List (List ℕ)
cut true b ws = [] ∷ ws
cut false b [] = (b ∷ []) ∷ []
cut false b (w ∷ ws) = (b ∷ w) ∷ ws

unfoldable pub pieces : List ℕ → List (List ℕ)
pieces [] = []
pieces (b ∷ text) = cut (is_space b) b (pieces text)

unfoldable pub filled : List (List ℕ) → List (List ℕ)
filled [] = []
filled ([] ∷ ws) = filled ws
filled ((b ∷ w) ∷ ws) = (b ∷ w) ∷ filled ws

unfoldable pub words : List ℕ → List (List ℕ)
words text = filled (pieces text)

-- the number that decimal digits tell behind n; a word of such digits; a minus in front, or none
unfoldable pub digits_behind : (n : ℕ) → List ℕ → Option ℕ
digits_behind n [] = some n
digits_behind n (b ∷ bs) = if ltb (nibble b) 10 then digits_behind (n * 10 + nibble b) bs otherwise none

unfoldable pub natural : List ℕ → Option ℕ
natural word = if eqb (length word) 0 then none otherwise digits_behind 0 word

unfoldable pub integer : List ℕ → Option ℤ
integer [] = none
integer (b ∷ bs) = if eqb b 45 then map (λ n. neg_ℤ (pos n)) (natural bs) otherwise map pos (natural (b ∷ bs))

-- a number, and the clauses that begin behind it: 0 ends a clause; any other number is a literal in front of the first of them, of one
-- of so many variables, and wrong where no 0 follows
abbrev pub in_front : (variables : ℕ) → List Clause → ℤ → Option (List Clause)
in_front v cs (pos zero) = some ([] ∷ cs)
in_front v [] (pos (suc i)) = none
in_front v (c ∷ cs) (pos (suc i)) = if ltb i v then some ((plus i ∷ c) ∷ cs) otherwise none
in_front v [] (negsuc i) = none
in_front v (c ∷ cs) (negsuc i) = if ltb i v then some ((minus i ∷ c) ∷ cs) otherwise none

unfoldable pub clauses_spelt : (variables : ℕ) → List (List ℕ) → Option (List Clause)
clauses_spelt v [] = some []
clauses_spelt v (w ∷ ws) = do
  cs ← clauses_spelt v ws
  z ← integer w
  in_front v cs z

-- the text behind comment lines, from `inside` one or not; the first line of a text; whether its words are `p`, `cnf` and two more
unfoldable pub behind_comments : (inside : Bool) → List ℕ → List ℕ
behind_comments inside [] = []
behind_comments true (b ∷ text) = behind_comments (not (eqb b 10)) text
behind_comments false (b ∷ text) = if eqb b 99 then behind_comments true text otherwise b ∷ text

unfoldable pub line_in : List ℕ → List ℕ
line_in [] = []
line_in (b ∷ text) = if eqb b 10 then [] otherwise b ∷ line_in text

abbrev pub same : (a b : List ℕ) → Bool
same a b = starts a b && starts b a

abbrev pub is_header : List (List ℕ) → Bool
is_header ws = eqb (length ws) 4 && same (ascii "p") (get_or ws 0 []) && same (ascii "cnf") (get_or ws 1 [])

-- the number of variables and the clauses, exactly as many as the first line says
unfoldable pub read_dimacs : List ℕ → Option (ℕ × List Clause)
read_dimacs text =
    let body = behind_comments false text in
    let header = words (line_in body) in
    do
      variables ← natural (get_or header 2 [])
      number ← natural (get_or header 3 [])
      cs ← clauses_spelt variables (words (drop (length (line_in body)) body))
      if is_header header && eqb (length cs) number then some (variables, cs) otherwise none
