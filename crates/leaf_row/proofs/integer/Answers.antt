-- `leaf_row::integer` meets its contract. Assumes nothing.
use Rattle.std.proofs.Common.{◌≡◌, refl, ◌∙◌, ◌-◌, append-nil, arith, length-append}
use Rattle.circuit.specs.Circuits.{gates}
use Rattle.circuit.specs.Numbers.{unknown}
use Rattle.frame.proofs.Writing.{wrote_nothing}
use Rattle.leaf_row.proofs.Fresh.{unknown_many, unknown_writes, unknown_more, row_of}
use Rattle.leaf_row.proofs.integer.Goals as goal

pub loop-preserved : goal.loop-preserved
loop-preserved c =
    rw (c.push.ensures, c.fresh.ensures) (omega arith, simp length-append (omega arith), unknown_more c.loop.value c.loop.next c.args.p c.loop.counter c.loop-test.true ∙ c.loop.invariant.2)

pub returns : goal.returns
returns c =
    let n = c.args.from.next in
    let p = c.args.p in
    let e : p - c.loop.counter ≡ 0 = omega arith in
    let v = rw (e, append-nil) at c.loop.invariant.2 in
    λ z slots. row_of z (unknown p) (wrote_nothing (gates n (unknown p)) slots (unknown_writes n p) refl (rw (unknown_many n p) (omega arith))) v
