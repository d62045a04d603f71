-- Parts of a text, passed one after the other. Assumes nothing.
use mathlib.Core.Path.{◌≡◌, refl, sym, ap, ◌∙◌}
use mathlib.Core.Bool.{Bool, true, false, ◌&&◌, false≢true, and_assoc, and-eq-true_iff}
use mathlib.Core.List.{List, [], ◌∷◌, ◌++◌}
use Prim.Native.Nat.{ℕ, ◌+◌, ◌≤◌}
use native.Mathlib.Omega.{arith}
use denote.Ref.{Bor}
use lib.Dec.{eqb}
use lib.ListN.{length, take, drop, length-append}
use lib.Seq.{drop-drop}
use Rattle.std.specs.Prelude.{Option, Some, None, MatchOption, nat_eq}
use Rattle.std.specs.Option.{option_copied, option_and_then}
use Rattle.std.specs.Cmp.Lexicographic.{pointwise}
use Rattle.std.proofs.lemmas.Bool.Decides.{nat_tests}
use Rattle.whole.specs.Tests.{if◌then◌otherwise◌}
use Rattle.sheet.specs.Texts.{starts}
use Rattle.solver_text.specs.Passing.{behind}

-- p, then q
pub starts-append : (p q text : List ℕ) → starts (p ++ q) text ≡ (starts p text && starts q (drop (length p) text))
unfolding starts
starts-append [] q text = refl
starts-append (a ∷ p) q [] = refl
starts-append (a ∷ p) q (b ∷ text) =
    ap (λ (t : Bool). eqb a b && t) (starts-append p q text) ∙ sym (and_assoc (eqb a b) (starts p text) (starts q (drop (length p) text)))

-- what a text begins with is no longer than it
pub starts_long : (p text : List ℕ) → starts p text ≡ true → length p ≤ length text
unfolding starts
starts_long [] text e = omega arith
starts_long (a ∷ p) [] e = absurd (false≢true e)
starts_long (a ∷ p) (b ∷ text) e = omega (arith, starts_long p text ((and-eq-true_iff (eqb a b) (starts p text)).0 e).1)

-- the library's test of a front
pub swapped : (a b : ℕ) → nat_eq b a ≡ eqb a b
swapped a b = grind (arith, nat_tests)

fronts : (p text : List ℕ) → pointwise nat_eq (take (length p) text) p ≡ starts p text
unfolding starts
fronts [] text = refl
fronts (a ∷ p) [] = refl
fronts (a ∷ p) (b ∷ text) = rw (swapped a b, fronts p text)

-- `strip_prefix` answers what stands behind a part
pub stripped : (p text : List ℕ) (r : Option (Bor (List ℕ)))
    → MatchOption r (pointwise nat_eq (take (length p) text) p ≡ false)
    (λ x. (pointwise nat_eq (take (length p) text) p ≡ true) × (x.now ≡ drop (length p) text) × (length x.now + length p ≡ length text))
    → option_copied r ≡ behind p text
unfolding behind
stripped p text None h = rw (← fronts p text, h)
stripped p text (Some x) h = rw (← fronts p text, h.0, h.1)

-- two parts, one behind the other
pub behind_then : (p q text : List ℕ) → behind (p ++ q) text ≡ option_and_then (behind q) (behind p text)
unfolding behind
behind_then p q text = by (starts p text) refl
  where
    by : (b : Bool) → starts p text ≡ b → behind (p ++ q) text ≡ option_and_then (behind q) (behind p text)
    by true e = rw (starts-append p q text, e, length-append, drop-drop)
    by false e = rw (starts-append p q text, e)

-- what a step tells
module _ (p text : List ℕ) where
  pub there : (rest : List ℕ) → Some rest ≡ behind p text → (starts p text ≡ true) × (rest ≡ drop (length p) text)
  unfolding behind
  there rest e = by (starts p text) refl e
    where
      by : (b : Bool) → starts p text ≡ b → Some rest ≡ (if b then Some (drop (length p) text) otherwise None) → (starts p text ≡ true) × (rest ≡ drop (length p) text)
      by true q e = (q, cc)
      by false q e = absurd cc

  pub not_there : None ≡ behind p text → starts p text ≡ false
  unfolding behind
  not_there e = by (starts p text) refl e
    where
      by : (b : Bool) → starts p text ≡ b → None ≡ (if b then Some (drop (length p) text) otherwise None) → starts p text ≡ false
      by true q e = absurd cc
      by false q e = q

  pub behind_is : (rest : List ℕ) → Some rest ≡ behind p text → rest ≡ drop (length p) text
  behind_is rest e = (there rest e).1
