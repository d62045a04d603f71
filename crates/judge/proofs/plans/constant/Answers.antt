-- `judge::plans::constant` meets its contract. Assumes nothing.
use Rattle.std.proofs.Common.{◌≤◌, arith}
use mir.Facts.{to_z-of_z}
use Rattle.whole.specs.Bits.{fewest}
use Rattle.numbers.proofs.Digits.{fewest_within}
use Rattle.judge.proofs.plans.constant.Goals as goal

pub number-requires-clause-width_most : goal.number-requires-clause-width_most
number-requires-clause-width_most c =
    let narrow : fewest c.constant.result ≤ 32 = fewest_within (omega arith) c.constant.ensures.fits in
    rw (c.bits.ensures.value, to_z-of_z (record { sfits = c.constant.type_inv })) (omega arith)
