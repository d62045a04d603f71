-- A number's literals as the code keeps them, in 48 places: falsity stands behind them. Assumes nothing.
use mathlib.Core.Path.{sym, ap, subst, ◌∙◌}
use lib.ListN.{take-append-drop}
use lib.Seq.{length-take-le}
use Rattle.std.specs.Prelude.{◌≡◌, List, ◌++◌, ℕ, ◌-◌, ◌≤◌, length, take, drop, replicate}
use Rattle.circuit.specs.Literals.{Lit, falsity}
use Rattle.frame.specs.declared.Number.TheInside.{Inside}

abbrev pub held : Inside → List Lit
held a = take a.width a.bits

pub record IsHeld (a : Inside) : Type 0 where
  pub few : a.width ≤ 48
  pub places : length a.bits ≡ 48
  pub behind : drop a.width a.bits ≡ replicate (48 - a.width) falsity

abbrev pub in_places : List Lit → Inside
in_places l = record { bits = l ++ replicate (48 - length l) falsity; width = length l }

pub held_width : (a : Inside) → IsHeld a → length (held a) ≡ a.width
held_width a h = length-take-le a.width a.bits (subst (λ (n : ℕ). a.width ≤ n) (sym h.places) h.few)

held_bits : (a : Inside) → IsHeld a → held a ++ replicate (48 - length (held a)) falsity ≡ a.bits
held_bits a h =
    ap (λ (n : ℕ). held a ++ replicate (48 - n) falsity) (held_width a h)
    ∙ ap (λ (l : List Lit). held a ++ l) (sym h.behind)
    ∙ take-append-drop a.width a.bits

pub back : (a : Inside) → IsHeld a → in_places (held a) ≡ a
back a h = λ i. record { bits = held_bits a h i; width = held_width a h i }
