-- `literals::constant` meets its contract. Assumes nothing.
use Rattle.std.proofs.Common.{◌≤◌, ◌∙◌, arith, rules, length-append, to_z, w64}
use Rattle.std.proofs.lemmas.Int.{to_z-of_z}
use Rattle.std.specs.Int.RustNames.{FitsSigned}
use Rattle.whole.specs.Bits.{fewest}
use Rattle.numbers.proofs.Digits.{fewest_within}
use Rattle.literals.proofs.Constants.{odd_is, halved, bits_more}
use Rattle.literals.proofs.constant.Goals as goal

pub push-requires : goal.push-requires
push-requires c =
    let few : fewest c.args.n ≤ 48 = fewest_within (omega arith) c.requires in
    let e = rw (to_z-of_z w64 c.args.n c.ranges.n) at c.bits-end.ensures.value in
    omega arith

pub loop-preserved : goal.loop-preserved
loop-preserved c =
    let z = to_z w64 c.loop.rest-bits in
    let f : FitsSigned w64 z = search rules in
    rw (c.push.ensures, c.known.ensures)
    (simp length-append (omega arith), bits_more c.loop.number c.bits-end.result c.loop.counter z c.loop-test.true (odd_is z) (halved z f) ∙ c.loop.invariant.1)
