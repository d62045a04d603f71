-- `bits::read` meets its contract. Assumes nothing.
use Rattle.std.proofs.Common.{◌∙◌, ap, pos, rules, arith}
use Rattle.std.proofs.lemmas.Int.{ints, to_z-of_z}
use mir.Syntax.{w32}
use mir.Val.{SFits}
use Rattle.whole.specs.Bits.{bit}
use Rattle.assign.specs.Model.{value}
use Rattle.bits.proofs.Reading.{byte_bit, bit_most, no_values, read_sign, read_more, next_lit}
use Rattle.bits.proofs.read.Goals as goal

pub returns-in_default : goal.returns-in_default
returns-in_default c = no_values c.args.model.now c.args.literals.now c.in_default.ensures.cases

pub loop-x-init : goal.loop-x-init
loop-x-init c =
    let x = c.in-Some.sign.now in
    let f : SFits w32 x = search rules in
    let b = rw to_z-of_z at c.is_true.ensures in
    let e = c.from-v.ensures ∙ ap pos (byte_bit c.is_true.result) ∙ ap (λ t. pos (bit t)) b in
    let k = bit_most (value c.args.model.now x) in
    read_sign c.args.model.now c.args.literals.now c.requires.few _ x _ (rw (c.into_iter-x-iterator.ensures.into_iter_gives, c.rev-x-items.ensures.source, c.iter.ensures.rest) c.in-Some.ensures.cases.0) (omega (arith, ints))

pub is_true-requires-in-loop-x : goal.is_true-requires-in-loop-x
is_true-requires-in-loop-x c =
    let f : SFits w32 c.in-Some-x.x.now = search rules in
    rw to_z-of_z (next_lit c.args.model.now c.args.literals.now c.requires.few c.loop-x.invariant c.next.new.self.iter.rest.now c.in-Some-x.x.now c.in-Some-x.ensures.steps c.requires.all)

pub overflow_add-v : goal.overflow_add-v
overflow_add-v c =
    let e = c.from.ensures ∙ ap pos (byte_bit c.is_true-in-loop-x.result) in
    omega (arith, ints, c.loop-x.invariant.fits, bit_most c.is_true-in-loop-x.result)

pub loop-x-preserved : goal.loop-x-preserved
loop-x-preserved c =
    let x = c.in-Some-x.x.now in
    let f : SFits w32 x = search rules in
    let b = rw to_z-of_z at c.is_true-in-loop-x.ensures in
    let e = c.from.ensures ∙ ap pos (byte_bit c.is_true-in-loop-x.result) ∙ ap (λ t. pos (bit t)) b in
    let k = bit_most (value c.args.model.now x) in
    read_more c.args.model.now c.args.literals.now c.requires.few c.loop-x.invariant c.next.new.self.iter.rest.now x c.in-Some-x.ensures.steps _ (omega (arith, ints, c.loop-x.invariant.fits))
