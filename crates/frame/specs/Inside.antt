-- A literal as the code keeps it, by its slot. Assumes nothing.
use native.Mathlib.Nat.{not-suc-le-zero}
use Rattle.std.specs.Prelude.{◌≡◌, refl, zero, suc, ℤ, pos, negsuc}
use Rattle.circuit.specs.Literals.{Lit, slot}
use Rattle.frame.specs.Literals.{unslot, IsLit}
use Rattle.frame.specs.declared.Lit.TheInside.{Inside}

abbrev pub lit_in : Inside → Lit
lit_in a = unslot a.slot

abbrev pub IsInside : Inside → Type 0
IsInside a = IsLit a.slot

abbrev pub slot_in : Lit → Inside
slot_in l = record { slot = slot l }

pub slot-unslot : (x : ℤ) → IsLit x → slot (unslot x) ≡ x
slot-unslot (pos zero) h = absurd (not-suc-le-zero h.some)
slot-unslot (pos (suc i)) h = refl
slot-unslot (negsuc i) h = refl

pub back : (a : Inside) → IsInside a → slot_in (lit_in a) ≡ a
back a h = λ i. record { slot = slot-unslot a.slot h i }
