-- `writer::write_rows` meets its contract. Assumes nothing.
use mathlib.Core.Path.{ap}
use Prim.Native.Nat.{ℕ}
use Rattle.sheet.specs.declared.References.{References}
use Rattle.writer.proofs.Walking.{walking_none, walking_end, walking_held, walking_ready, walking_room, walking_next}
use Rattle.writer.proofs.write_rows.Goals as goal

pub loop-r-init : goal.loop-r-init
loop-r-init c = walking_none c.requires.accepted c.args.map.now c.args.slots.now c.requires.slot_room

pub refer_all-of-requires-clause-held_x : goal.refer_all-of-requires-clause-held_x
refer_all-of-requires-clause-held_x c = walking_held c.requires.accepted c.loop-r.invariant c.rows-f-items.ensures.rows c.records-records.ensures.records c.loop-r-test.true c.requires.map_room _ _ (ap (λ (u : References ℕ). u.x) c.places-at.ensures)

pub refer_all-of-requires-clause-held_y : goal.refer_all-of-requires-clause-held_y
refer_all-of-requires-clause-held_y c = walking_held c.requires.accepted c.loop-r.invariant c.rows-f-items.ensures.rows c.records-records.ensures.records c.loop-r-test.true c.requires.map_room _ _ (ap (λ (u : References ℕ). u.y) c.places-at.ensures)

pub refer_all-of-requires-clause-held_z : goal.refer_all-of-requires-clause-held_z
refer_all-of-requires-clause-held_z c = walking_held c.requires.accepted c.loop-r.invariant c.rows-f-items.ensures.rows c.records-records.ensures.records c.loop-r-test.true c.requires.map_room _ _ (ap (λ (u : References ℕ). u.z) c.places-at.ensures)

pub write_row-made-requires-clause-ready : goal.write_row-made-requires-clause-ready
write_row-made-requires-clause-ready c =
    let v = c.refer_all-of.ensures in
    walking_ready c.requires.accepted c.loop-r.invariant c.rows-f-items.ensures.rows c.records-records.ensures.records c.loop-r-test.true c.requires.map_room c.places-at.ensures v.x v.y v.z

pub write_row-made-requires-clause-room : goal.write_row-made-requires-clause-room
write_row-made-requires-clause-room c =
    let v = c.refer_all-of.ensures in
    walking_room c.requires.accepted c.loop-r.invariant c.rows-f-items.ensures.rows c.records-records.ensures.records c.loop-r-test.true c.requires.map_room c.places-at.ensures v.x v.y v.z

pub loop-r-preserved : goal.loop-r-preserved
loop-r-preserved c =
    let v = c.refer_all-of.ensures in
    walking_next c.requires.accepted c.loop-r.invariant c.rows-f-items.ensures.rows c.records-records.ensures.records c.loop-r-test.true c.requires.map_room c.places-at.ensures v.x v.y v.z c.write_row-made.ensures c.store.ensures

pub returns : goal.returns
returns c =
    let (slots, end, map) = walking_end c.requires.accepted c.loop-r.invariant (rw c.rows-f-items.ensures.rows at c.loop-r-test.false) in
    record { slots = slots; end = end; map = map }
