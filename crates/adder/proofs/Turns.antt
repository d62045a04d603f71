-- One turn of the adder: a bit, then the sum of the places behind it. Assumes nothing.
use mathlib.Core.Path.{◌≡◌, refl}
use mathlib.Core.List.{List, [], ◌∷◌, ◌++◌}
use lib.IntN.{ℤ}
use Rattle.circuit.specs.Literals.{Lit}
use Rattle.circuit.specs.Circuits.{Circuit, ret}
use Rattle.circuit.specs.Numbers.{adder}
use Rattle.frame.specs.declared.Cursor.{Cursor}
use Rattle.frame.specs.declared.Made.{Made}
use Rattle.frame.specs.Written.{RoomFor, Makes}
use Rattle.frame.proofs.Loops.{Filling, filling_room, filling_turn}
use Rattle.adder.specs.declared.Bit.{Bit}
use Rattle.adder.specs.Adding.{adder_bit}

module _ {from : Cursor} {all : Circuit (List Lit)} {before l : List ℤ} {at : Cursor} {done : List Lit} (a b carry : Lit) (xs ys : List Lit)
    (h : Filling from all before l at done (adder carry (a ∷ xs) (b ∷ ys))) where
  pub bit_room : RoomFor at (adder_bit a b carry) l
  bit_room = filling_room (adder_bit a b carry) (λ bit. bit.sum) (λ bit. adder bit.carry xs ys) h

  pub bit_turn : {l' : List ℤ} {m : Made Bit} → Makes at (adder_bit a b carry) l l' m → Filling from all before l' m.to (done ++ m.value.sum ∷ []) (adder m.value.carry xs ys)
  bit_turn w = filling_turn (adder_bit a b carry) (λ bit. bit.sum) (λ bit. adder bit.carry xs ys) h w

pub adder_none : (carry : Lit) (xs : List Lit) → adder carry xs [] ≡ ret []
adder_none carry [] = refl
adder_none carry (a ∷ xs) = refl
