-- A literal's byte in a model. Assumes nothing.
use Rattle.std.proofs.Common.{◌≡◌, refl, sym, ap, Bool, true, false, not, List, ℕ, zero, suc, ◌-◌, eqb, get_or, ℤ, pos, negsuc, nat_abs, arith}
use lib.ListN.{get_or-map}
use lib.Signed.{lt_z}
use mir.Facts.{to_z-of_z}
use Rattle.frame.specs.Literals.{IsLit}
use Rattle.sheet.specs.Calls.{assigned}
use Rattle.assign.specs.Model.{value}

less_one : (i : ℕ) → suc i - 1 ≡ i
less_one i = omega arith

byte_at : (model : List ℕ) (i : ℕ) → eqb (get_or model (suc i - 1) 0) 1 ≡ get_or (assigned model) i false
byte_at model i = rw less_one (sym (get_or-map (λ b. eqb b 1) model i 0))

-- the byte of a negation's variable, and that of another literal's
pub value_negative : (model : List ℕ) (x : ℤ) → lt_z x (pos 0) ≡ true → not (eqb (get_or model (nat_abs x - 1) 0) 1) ≡ value model x
unfolding value
value_negative model (pos n) h = absurd (grind arith)
value_negative model (negsuc i) h = ap not (byte_at model i)

pub value_positive : (model : List ℕ) (x : ℤ) → lt_z x (pos 0) ≡ false → IsLit x → eqb (get_or model (nat_abs x - 1) 0) 1 ≡ value model x
unfolding value
value_positive model (pos zero) h l = absurd (omega (arith, l.some))
value_positive model (pos (suc i)) h l = byte_at model i
value_positive model (negsuc i) h l = cc

pub ruleset read = (value_negative, value_positive, to_z-of_z)
