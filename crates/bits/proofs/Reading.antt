-- Literals read from the last down, one more each time; what is read fits. Assumes nothing.
use Rattle.std.proofs.Common.{◌≡◌, refl, ap, ◌∙◌, Bool, true, false, List, [], ◌∷◌, ◌++◌, ℕ, zero, suc, ◌≤◌, length, get_or, take, ℤ, pos, neg_ℤ, ◌+ℤ◌, ◌*ℤ◌, append_assoc, length-append, arith}
use lib.ListN.{length-map}
use lib.Seq.{get_or-append_seam}
use mir.Val.{bool_byte}
use Rattle.whole.specs.Bits.{bit, to_int, Fits}
use Rattle.whole.proofs.Bits.{to_int_fits}
use Rattle.whole.proofs.Ranges.{fits_up}
use Rattle.circuit.specs.Literals.{falsity, lit_true}
use Rattle.sheet.specs.Calls.{assigned}
use Rattle.frame.specs.Literals.{unslot, literals}
use Rattle.assign.specs.Model.{value, LitOf, AllLitOf}
use Rattle.bits.specs.Readings.{values}

-- a truth as a number
pub byte_bit : (b : Bool) → bool_byte b ≡ bit b
byte_bit true = refl
byte_bit false = refl

pub bit_most : (b : Bool) → bit b ≤ 1
bit_most true = omega arith
bit_most false = omega arith

-- at most 48 literals
values_fit : (model : List ℕ) (l : List ℤ) → length l ≤ 48 → Fits 48 (to_int (values model l))
unfolding values
values_fit model l h = fits_up (rw (length-map (literals l) (lit_true (assigned model)), length-map l unslot) h) (to_int_fits (values model l))

pub no_values : (model : List ℕ) (l : List ℤ) → length l ≡ 0 → pos 0 ≡ to_int (values model l)
unfolding values
no_values model [] h = refl
no_values model (x ∷ l) h = absurd (omega arith)

-- one more below those that are read
more_values : (model : List ℕ) (x : ℤ) (l : List ℤ) → 1 ≤ length l → to_int (values model (x ∷ l)) ≡ pos (bit (value model x)) +ℤ pos 2 *ℤ to_int (values model l)
unfolding values value
more_values model x [] h = absurd (omega arith)
more_values model x (y ∷ l) h = refl

-- the literals in `rest` are left, and those behind are read
pub record ReadDown (model : List ℕ) (l rest : List ℤ) (v : ℤ) : Type 0 where
  pub above : List ℤ
  pub all : l ≡ rest ++ above
  pub some : 1 ≤ length above
  pub value : v ≡ to_int (values model above)
  pub fits : Fits 48 v

module _ (model : List ℕ) (l : List ℤ) (few : length l ≤ 48) where
  -- the sign
  pub read_sign : (rest : List ℤ) (x v : ℤ) → l ≡ rest ++ x ∷ [] → v ≡ neg_ℤ (pos (bit (value model x))) → ReadDown model l rest v
  unfolding values value
  read_sign rest x v all e =
      let value : v ≡ to_int (values model (x ∷ [])) = e in
      record { above = x ∷ []; all = all; some = omega arith; value = value; fits = rw value (values_fit model (x ∷ []) (omega arith)) }

  module _ {rest : List ℤ} {v : ℤ} (d : ReadDown model l rest v) (left : List ℤ) (x : ℤ) (e : rest ≡ left ++ x ∷ []) where
    both : l ≡ left ++ (x ∷ d.above)
    both = d.all ∙ ap (λ r. r ++ d.above) e ∙ append_assoc left (x ∷ []) d.above

    pub read_more : (w : ℤ) → w ≡ pos (bit (value model x)) +ℤ pos 2 *ℤ v → ReadDown model l left w
    read_more w f =
        let value : w ≡ to_int (values model (x ∷ d.above)) = rw (more_values model x d.above d.some, ← d.value) f in
        let h : length (x ∷ d.above) ≤ 48 = omega (arith, ap length both, length-append left (x ∷ d.above)) in
        record { above = x ∷ d.above; all = both; some = omega arith; value = value; fits = rw value (values_fit model (x ∷ d.above) h) }

    pub next_lit : {n : ℕ} → AllLitOf n l → LitOf n x
    next_lit {n} h = rw (both, get_or-append_seam left x d.above (pos 0)) at (h (length left) (omega (arith, ap length both, length-append left (x ∷ d.above))))

-- a Boolean's literal is the first
pub first_value : (model : List ℕ) (w : ℕ) (l : List ℤ) → 1 ≤ w → 1 ≤ length l
    → value model (get_or l 0 (pos 0)) ≡ lit_true (assigned model) (get_or (literals (take w l)) 0 falsity)
unfolding value
first_value model zero l h k = absurd (omega arith)
first_value model (suc w) [] h k = absurd (omega arith)
first_value model (suc w) (x ∷ l) h k = refl
