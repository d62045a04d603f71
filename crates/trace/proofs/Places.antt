-- Literals that hold the lowest bits of a number under an assignment: those that read as it, in any width, and those turned. Assumes nothing.
use mathlib.Core.Path.{◌≡◌, refl, sym, ◌∙◌, ap, subst}
use mathlib.Core.Bool.{Bool, not}
use mathlib.Core.List.{List, [], ◌∷◌, map, head-eq_of_cons-eq, tail-eq_of_cons-eq}
use Prim.Native.Nat.{ℕ, zero, suc, ◌≤◌}
use native.Mathlib.Omega.{arith}
use lib.ListN.{length, length-map}
use lib.IntN.{ℤ}
use Rattle.whole.specs.Bits.{to_int, odd, half, bits_of, extended}
use Rattle.whole.proofs.Bits.{bits_of_to_int}
use Rattle.whole.proofs.Extended.{extended-length, extended-map, extended_same}
use Rattle.circuit.specs.Literals.{Lit, neg, Assignment, lit_true}
use Rattle.circuit.proofs.Gates.{lit_true-neg}
use Rattle.circuit.proofs.Meaning.{values}
use Rattle.circuit.proofs.Reading.{Reads}
use Rattle.trace.specs.Traces.{turned}
use Rattle.trace.proofs.Halves.{turned_halves}

-- under s the literals hold the lowest w bits of z
abbrev pub Places : Assignment → (w : ℕ) → List Lit → ℤ → Type 0
Places s zero [] z = Unit {0}
Places s zero (l ∷ ls) z = ⊥
Places s (suc w) [] z = ⊥
Places s (suc w) (l ∷ ls) z = (lit_true s l ≡ odd z) × Places s w ls (half z)

module _ (s : Assignment) where
  pub places-length : (w : ℕ) (ls : List Lit) (z : ℤ) → Places s w ls z → length ls ≡ w
  places-length zero [] z h = refl
  places-length zero (l ∷ ls) z h = absurd h
  places-length (suc w) [] z h = absurd h
  places-length (suc w) (l ∷ ls) z h = ap suc (places-length w ls (half z) h.1)

  pub places_of : (w : ℕ) (ls : List Lit) (z : ℤ) → values s ls ≡ bits_of w z → Places s w ls z
  places_of zero [] z e = tt
  places_of zero (l ∷ ls) z e = absurd (omega (arith, ap length e))
  places_of (suc w) [] z e = absurd (omega (arith, ap length e))
  places_of (suc w) (l ∷ ls) z e = (head-eq_of_cons-eq e, places_of w ls (half z) (tail-eq_of_cons-eq e))

  pub places-neg : (w : ℕ) (ls : List Lit) (z : ℤ) → Places s w ls z → Places s w (map neg ls) (turned z)
  places-neg zero [] z h = tt
  places-neg zero (l ∷ ls) z h = absurd h
  places-neg (suc w) [] z h = absurd h
  places-neg (suc w) (l ∷ ls) z h =
      let (first, rest) = turned_halves z in
      (lit_true-neg s l ∙ ap not h.0 ∙ sym first, subst (Places s w (map neg ls)) (sym rest) (places-neg w ls (half z) h.1))

  -- literals that read as a number, extended
  pub places_read : (w : ℕ) {ls : List Lit} {z : ℤ} → Reads s ls z → length ls ≤ w → Places s w (extended w ls) z
  places_read zero a h = absurd (omega (arith, a.some))
  places_read (suc k) {ls} {z} a h =
      let bits : List Bool = values s (extended (suc k) ls) in
      let long : length bits ≡ suc k = length-map (extended (suc k) ls) (lit_true s) ∙ extended-length (suc k) ls a.some h in
      let is : to_int bits ≡ z = ap to_int (extended-map (lit_true s) (suc k) ls) ∙ extended_same (suc k) (values s ls) ∙ a.reads in
      places_of (suc k) (extended (suc k) ls) z (sym (bits_of_to_int k bits long) ∙ ap (bits_of (suc k)) is)
