-- `row_writer::write_row` meets its contract: what is left of its arms. Assumes nothing.
use Rattle.row_writer.proofs.Limits.{natural_room, integer_room}
use Rattle.row_writer.proofs.write_row.Goals as goal

pub natural-requires-clause-room : goal.natural-requires-clause-room
natural-requires-clause-room c = natural_room c.args.f.p c.args.f.z (rw c.in-NaturalUnknown.is at c.requires.room)

pub integer-requires-clause-room : goal.integer-requires-clause-room
integer-requires-clause-room c = integer_room c.args.f.p c.args.f.z (rw c.in-IntegerUnknown.is at c.requires.room)

-- rows that write nothing, whatever the slots
pub returns-in-BooleanConstant : goal.returns-in-BooleanConstant
returns-in-BooleanConstant c = rw c.in-BooleanConstant.is (c.flag.ensures c.args.slots.now)

pub returns-in-BooleanUnknown : goal.returns-in-BooleanUnknown
returns-in-BooleanUnknown c = rw c.in-BooleanUnknown.is (c.unknown.ensures c.args.slots.now)

pub returns-in-NaturalUnknown : goal.returns-in-NaturalUnknown
returns-in-NaturalUnknown c = rw c.in-NaturalUnknown.is (c.natural.ensures c.args.f.z c.args.slots.now)

pub returns-in-IntegerUnknown : goal.returns-in-IntegerUnknown
returns-in-IntegerUnknown c = rw c.in-IntegerUnknown.is (c.integer.ensures c.args.f.z c.args.slots.now)

pub returns-in-NumberConstant : goal.returns-in-NumberConstant
returns-in-NumberConstant c = rw c.in-NumberConstant.is (c.constant.ensures c.args.f.z c.args.slots.now)

pub returns-in-Not : goal.returns-in-Not
returns-in-Not c = rw c.in-Not.is (c.negation.ensures c.args.slots.now)
