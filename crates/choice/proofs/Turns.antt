-- One turn of a choice: a MUX, then the choice of the places behind it. Assumes nothing.
use mathlib.Core.Path.{◌≡◌, refl}
use mathlib.Core.List.{List, [], ◌∷◌, ◌++◌}
use lib.IntN.{ℤ}
use Rattle.circuit.specs.Literals.{Lit}
use Rattle.circuit.specs.Gates.{mux}
use Rattle.circuit.specs.Circuits.{Circuit, ret, make}
use Rattle.circuit.specs.Numbers.{muxes}
use Rattle.frame.specs.declared.Cursor.{Cursor}
use Rattle.frame.specs.declared.Made.{Made}
use Rattle.frame.specs.Written.{RoomFor, Makes}
use Rattle.frame.proofs.Loops.{Filling, filling_room, filling_turn}

module _ {from : Cursor} {all : Circuit (List Lit)} {before l : List ℤ} {at : Cursor} {done : List Lit} (condition a b : Lit) (xs ys : List Lit)
    (h : Filling from all before l at done (muxes condition (a ∷ xs) (b ∷ ys))) where
  pub mux_room : RoomFor at (make (mux condition a b)) l
  mux_room = filling_room (make (mux condition a b)) (λ g. g) (λ g. muxes condition xs ys) h

  pub mux_turn : {l' : List ℤ} {m : Made Lit} → Makes at (make (mux condition a b)) l l' m → Filling from all before l' m.to (done ++ m.value ∷ []) (muxes condition xs ys)
  mux_turn w = filling_turn (make (mux condition a b)) (λ g. g) (λ g. muxes condition xs ys) h w

pub muxes_none : (condition : Lit) (xs : List Lit) → muxes condition xs [] ≡ ret []
muxes_none condition [] = refl
muxes_none condition (a ∷ xs) = refl
