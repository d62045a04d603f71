-- `numbers::bits` meets its contract. Assumes nothing.
use Rattle.std.proofs.Common.{◌≡◌, arith, pos, to_z, w64}
use Rattle.std.proofs.lemmas.Int.{ints}
use Rattle.std.specs.Int.Signed.{mag}
use Rattle.numbers.proofs.Digits.{fewest_leading, fewest_few, fewest_natural}
use Rattle.numbers.proofs.bits.Goals as goal
use Rattle.numbers.proofs.bits.Goals.{then-n-lt0, else-n-lt0}

pub returns : goal.returns
returns c =
    let n = c.args.n in
    let e : to_z w64 c.if-n-lt0.magnitude-bits ≡ pos (mag n) = elim c.if-n-lt0.branch [ then-n-lt0 w ↦ grind (arith, ints) | else-n-lt0 w ↦ grind (arith, ints) ] in
    let f = fewest_leading n c.ranges.n.sfits in
    rw e (record { value = f; few = rw f (fewest_few n c.ranges.n.sfits); few_natural = λ m is h. rw (f, is) (fewest_natural m h) })
