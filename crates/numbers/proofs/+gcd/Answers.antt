-- `numbers::gcd` meets its contract: the remainder falls, and Euclid's rule goes the same way. Assumes nothing.
use Rattle.std.proofs.Common.{sym, ◌∙◌}
use Rattle.whole.proofs.Divisors.{gcd_zero, gcd_is}
use Rattle.numbers.proofs.Euclid.{gcd_onward}
use Rattle.numbers.proofs.+gcd.Goals as goal

pub returns-then-b-eq0 : goal.returns-then-b-eq0
returns-then-b-eq0 t c =
    let e = gcd_zero c.args.a in
    rw c.if-b-eq0.true (record { value = sym e; divides = rw e at (gcd_is c.args.a 0) })

pub returns-else-b-eq0 : goal.returns-else-b-eq0
returns-else-b-eq0 t c =
    let e = c.gcd.ensures.value ∙ sym (gcd_onward c.args.a c.args.b c.if-b-eq0.false) in
    record { value = e; divides = rw e (gcd_is c.args.a c.args.b) }
