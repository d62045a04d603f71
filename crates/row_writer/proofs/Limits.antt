-- Where there is room for an unknown, its variables have numbers. Assumes nothing.
use mathlib.Core.Path.{ap, ◌∙◌}
use mathlib.Core.List.{List, [], ◌∷◌, ◌++◌}
use Prim.Native.Nat.{ℕ, ◌+◌, ◌<◌}
use native.Mathlib.Omega.{arith}
use lib.IntN.{ℤ}
use lib.ListN.{length}
use Rattle.circuit.specs.Literals.{falsity}
use Rattle.circuit.specs.Numbers.{unknown}
use Rattle.circuit.proofs.Lengths.{gates_same}
use Rattle.sheet.specs.Steps.{cell, number_cell, with_sign}
use Rattle.frame.specs.declared.Cursor.{Cursor}
use Rattle.frame.specs.Written.{RoomFor}
use Rattle.leaf_row.proofs.Fresh.{unknown_many}

pub integer_room : (p z : ℕ) {from : Cursor} {slots : List ℤ} → RoomFor from (number_cell z (unknown p)) slots → from.next + p < 2147483648
integer_room p z {from} r = omega (arith, r.number, ap length (gates_same from.next (unknown p) (λ ls. cell ls z)) ∙ unknown_many from.next p)

pub natural_room : (p z : ℕ) {from : Cursor} {slots : List ℤ} → RoomFor from (number_cell z (with_sign (unknown p))) slots → from.next + p < 2147483648
natural_room p z {from} r =
    omega
    (arith, r.number, ap length (gates_same from.next (with_sign (unknown p)) (λ ls. cell ls z)) ∙ ap length (gates_same from.next (unknown p) (λ ls. ls ++ falsity ∷ [])) ∙ unknown_many from.next p)
