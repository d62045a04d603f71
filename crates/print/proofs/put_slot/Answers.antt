-- `print::put_slot` meets its contract. Assumes nothing.
use mathlib.Core.Path.{◌≡◌, ◌∙◌}
use native.Mathlib.Omega.{arith}
use lib.IntN.{nat_abs}
use mir.Facts.{to_z-of_z, sfits_widen}
use Rattle.std.proofs.lemmas.Int.{ints}
use Rattle.print.proofs.Pieces.{slot_zero, slot_other}
use Rattle.print.proofs.put_slot.Goals.{then-x-eq0, else-x-eq0}
use Rattle.print.proofs.put_slot.Goals as goal

pub returns : goal.returns
returns c =
    let x = c.args.x in
    let same : c.from.result ≡ x = c.from.ensures ∙ to_z-of_z c.ranges.x in
    let printed = rw (same, to_z-of_z (sfits_widen tt c.ranges.x)) at c.put_signed.ensures in
    elim c.if-x-eq0.branch [
      | then-x-eq0 w ↦
          let zero : nat_abs x ≡ 0 = omega (arith, ints) in
          rw (slot_zero x zero) (rw w.mark-is at printed)
      | else-x-eq0 w ↦ rw (slot_other x (λ e. w.if-x-eq0.false (omega (arith, ints)))) (rw w.mark-is at printed)
    ]
