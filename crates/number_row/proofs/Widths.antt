-- An expansion has as many literals as acceptance says. Assumes nothing.
use mathlib.Core.Path.{◌≡◌, refl, ap, ◌∙◌}
use mathlib.Core.Bool.{Bool, true, false}
use mathlib.Core.List.{List, [], ◌∷◌}
use Prim.Native.Nat.{ℕ, zero, suc, ◌+◌, ◌≤◌, ◌<◌}
use native.Mathlib.Omega.{arith}
use lib.Dec.{eqb}
use lib.IntN.{ℤ, pos}
use lib.ListN.{length, length-map}
use Rattle.whole.specs.Tests.{if◌then◌otherwise◌}
use Rattle.whole.specs.Bits.{fewest, extended, bits_of}
use Rattle.whole.proofs.Bits.{bits_of_length}
use Rattle.whole.proofs.Extended.{extended-length}
use Rattle.circuit.specs.Literals.{Lit, plus, falsity, known}
use Rattle.circuit.specs.Circuits.{Circuit, ret, new, ◌>>=◌, out}
use Rattle.circuit.specs.Numbers.{constant, adder, ands, add_rows, multiplier, product, expansion}
use Rattle.circuit.specs.Counting.{expanded_width}

-- the result has P, whatever literals the gates make
module _ {A : Type 0} where
  abbrev Gives : Circuit A → (A → Type 0) → Type 0
  Gives (ret a) P = P a
  Gives (new g k) P = (l : Lit) → Gives (k l) P

  gives_out : (n : ℕ) (c : Circuit A) (P : A → Type 0) → Gives c P → P (out n c)
  gives_out n (ret a) P h = h
  gives_out n (new g k) P h = gives_out (suc n) (k (plus n)) P (h (plus n))

gives_bind : {A B : Type 0} (c : Circuit A) (f : A → Circuit B) (P : A → Type 0) (Q : B → Type 0) → Gives c P → ((a : A) → P a → Gives (f a) Q) → Gives (c >>= f) Q
gives_bind (ret a) f P Q h q = q a h
gives_bind (new g k) f P Q h q = λ l. gives_bind (k l) f P Q (h l) q

-- as many literals
abbrev Many : ℕ → List Lit → Type 0
Many w ls = length ls ≡ w

adder_many : (w : ℕ) (carry : Lit) (xs ys : List Lit) → Many w xs → Many w ys → Gives (adder carry xs ys) (Many w)
adder_many w carry [] ys h k = h
adder_many w carry (a ∷ xs) [] h k = k
adder_many zero carry (a ∷ xs) (b ∷ ys) h k = absurd (omega arith)
adder_many (suc w) carry (a ∷ xs) (b ∷ ys) h k = λ t s c. gives_bind (adder c xs ys) (λ ss. ret (s ∷ ss)) (Many w) (Many (suc w)) (adder_many w c xs ys (omega arith) (omega arith)) (λ ss e. ap suc e)

ands_many : (w : ℕ) (xs : List Lit) (y : Lit) → w ≤ length xs → Gives (ands w xs y) (Many w)
ands_many zero xs y h = refl
ands_many (suc w) [] y h = absurd (omega arith)
ands_many (suc w) (x ∷ xs) y h = λ a. gives_bind (ands w xs y) (λ rest. ret (a ∷ rest)) (Many w) (Many (suc w)) (ands_many w xs y (omega arith)) (λ rest e. ap suc e)

add_rows_many : (w : ℕ) (ys xs total : List Lit) → Many w total → w ≤ length xs → Gives (add_rows ys xs total) (Many w)
add_rows_many w [] xs total h k = h
add_rows_many w (y ∷ ys) xs [] h k = h
add_rows_many zero (y ∷ ys) xs (t ∷ total) h k = absurd (omega arith)
add_rows_many (suc w) (y ∷ ys) xs (t ∷ total) h k =
    let m : Many w total = omega arith in
    gives_bind
    (ands (length total) xs y)
    (λ row. adder falsity total row >>= λ total'. add_rows ys xs total' >>= λ rest. ret (t ∷ rest))
    (Many w)
    (Many (suc w))
    (rw m (ands_many w xs y (omega arith)))
    (λ row e. gives_bind (adder falsity total row) (λ total'. add_rows ys xs total' >>= λ rest. ret (t ∷ rest)) (Many w) (Many (suc w)) (adder_many w falsity total row m e)
    (λ total' f. gives_bind (add_rows ys xs total') (λ rest. ret (t ∷ rest)) (Many w) (Many (suc w)) (add_rows_many w ys xs total' f (omega arith)) (λ rest g. ap suc g)))

multiplier_many : (xs ys : List Lit) → 0 < length ys → Gives (multiplier xs ys) (Many (length xs))
multiplier_many xs [] h = absurd (omega arith)
multiplier_many xs (y ∷ ys) h =
    let w = length xs in
    gives_bind (ands w xs y) (λ total. add_rows ys xs total) (Many w) (Many w) (ands_many w xs y (omega arith)) (λ total e. add_rows_many w ys xs total e (omega arith))

product_many : (w : ℕ) (xs ys : List Lit) → w ≡ length xs + length ys → 0 < length xs → 0 < length ys → Gives (product xs ys) (Many w)
product_many w xs ys e h k =
    let a : length (extended w xs) ≡ w = extended-length w xs h (omega arith) in
    let b : length (extended w ys) ≡ w = extended-length w ys k (omega arith) in
    rw (← e) (rw a at (multiplier_many (extended w xs) (extended w ys) (omega arith)))

constant_many : (z : ℤ) → Many (fewest z) (constant z)
constant_many z = length-map (bits_of (fewest z) z) known ∙ bits_of_length (fewest z) z

expansion_many : (factor : ℕ) (xs : List Lit) → 0 < length xs → Gives (expansion factor xs) (Many (expanded_width (length xs) factor))
unfolding expanded_width
expansion_many factor xs h = by (eqb factor 1)
  where
    by : (t : Bool) → Gives (if t then ret xs otherwise product xs (constant (pos factor))) (Many (if t then length xs otherwise length xs + fewest (pos factor)))
    by true = refl
    by false = product_many (length xs + fewest (pos factor)) xs (constant (pos factor)) (omega (arith, constant_many (pos factor))) h (omega (arith, constant_many (pos factor)))

pub expansion_width : (n factor : ℕ) (xs : List Lit) → 0 < length xs → length (out n (expansion factor xs)) ≡ expanded_width (length xs) factor
expansion_width n factor xs h = gives_out n (expansion factor xs) (Many (expanded_width (length xs) factor)) (expansion_many factor xs h)
