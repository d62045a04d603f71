-- `numbers::gcd`: the remainder falls.
use Rattle.numbers.proofs.+gcd.Given as goal

abbrev pub decreases-gcd : goal.decreases-gcd
decreases-gcd l = l.b
