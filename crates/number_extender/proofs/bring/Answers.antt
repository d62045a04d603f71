-- `number_extender::bring` meets its contract. Assumes nothing.
use mathlib.Core.Path.{refl}
use Prim.Native.Nat.{◌/◌}
use Rattle.sheet.specs.Acceptance.{meeting}
use Rattle.extend.proofs.Words.{kept_fit}
use Rattle.trace.specs.Traces.{expanding}
use Rattle.extend.proofs.Putting.{room_next, put_then}
use Rattle.number_extender.proofs.bring.Goals as goal

pub expand-q-requires-clause-room : goal.expand-q-requires-clause-room
expand-q-requires-clause-room c =
    let a = c.args.a in
    let m = c.requires.meeting_a_b in
    let put = rw (kept_fit refl m.first.fits, c.lcm-common.ensures.value) at c.expand-p.ensures.bits in
    rw (kept_fit refl m.second.fits, c.lcm-common.ensures.value)
    (room_next (expanding a.record.width (meeting a.record c.args.b.record / a.record.denominator) a.numerator) _ c.requires.room put)

pub returns-clause-bits : goal.returns-clause-bits
returns-clause-bits c =
    let a = c.args.a in
    let m = c.requires.meeting_a_b in
    let put = rw (kept_fit refl m.first.fits, c.lcm-common.ensures.value) at c.expand-p.ensures.bits in
    put_then (expanding a.record.width (meeting a.record c.args.b.record / a.record.denominator) a.numerator) _ c.requires.room put
    (rw (kept_fit refl m.second.fits, c.lcm-common.ensures.value) at c.expand-q.ensures.bits)
