-- `numbers::lcm` meets its contract. Assumes nothing.
use Rattle.std.proofs.Common.{◌≡◌, ◌*◌, ◌/◌}
use Rattle.std.proofs.Math.Nat.{pos_of_dvd_of_pos}
use Rattle.whole.specs.Divisors.{lcm}
use Rattle.whole.proofs.Divisors.{lcm_is}
use Rattle.numbers.proofs.lcm.Goals as goal

pub nonzero_div-result : goal.nonzero_div-result
nonzero_div-result c = pos_of_dvd_of_pos c.gcd-d.ensures.divides.left c.requires.denominator_a.some

pub returns : goal.returns
unfolding lcm
returns c =
    let a = c.args.a in
    let b = c.args.b in
    let e : a / c.gcd-d.result * b ≡ lcm a b = rw c.gcd-d.ensures.value in
    record { value = e; multiple = rw e (lcm_is a b c.requires.denominator_a.some) }
