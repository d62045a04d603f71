-- `judge::combined::combined` meets its contract. Assumes nothing.
use Rattle.whole.proofs.Divisors.{lcm-pos}
use Rattle.judge.proofs.combined.combined.Goals as goal

pub number-requires-clause-denominator_denominator : goal.number-requires-clause-denominator_denominator
number-requires-clause-denominator_denominator c = record {
  some = rw c.lcm-common.ensures.value (lcm-pos _ _ c.requires.in_limits_a.denominator.some c.requires.in_limits_b.denominator.some);
  most = c.if-common-gt4096.false;
}
