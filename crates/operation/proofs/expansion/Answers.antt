-- `operation::expansion` meets its contract. Assumes nothing.
use Rattle.std.proofs.Common.{◌≡◌, ◌+◌, ◌≤◌, ◌∙◌, ap, arith, length, pos, w64}
use Rattle.std.proofs.lemmas.Bool.{ne_eqb}
use Rattle.std.proofs.lemmas.Int.{to_z_pos}
use Rattle.whole.specs.Bits.{fewest}
use Rattle.circuit.specs.Counting.{expanded_width}
use Rattle.circuit.proofs.Bounds.{constant_lits}
use Rattle.frame.proofs.Writing.{makes_none}
use Rattle.operation.proofs.expansion.Goals as goal

pub returns-then-factor-eq1 : goal.returns-then-factor-eq1
returns-then-factor-eq1 c = rw c.if-factor-eq1.true (makes_none c.args.from c.args.x.now c.args.slots.now)

-- as wide as the number and the factor together
pub product-requires-clause-fits : goal.product-requires-clause-fits
unfolding expanded_width
product-requires-clause-fits c =
    let f = c.args.factor in
    let e = rw (c.from.ensures, to_z_pos w64 f (omega arith)) at c.constant-y.ensures in
    let n : length c.constant-y.result ≡ fewest (pos f) = ap length e ∙ (constant_lits {n = 1} (pos f) (omega arith)).size in
    let w : length c.args.x.now + fewest (pos f) ≤ 48 = rw (ne_eqb f 1 c.if-factor-eq1.false) at c.requires.fits in
    omega arith
