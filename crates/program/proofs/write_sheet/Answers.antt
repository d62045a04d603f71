-- `program::write_sheet` meets its contract. Assumes nothing.
use lib.ListN.{length}
use Rattle.program.proofs.Rooms.{writing_sheet}
use Rattle.program.proofs.write_sheet.Goals as goal

pub returns : goal.returns
returns c =
    let r = c.requires in
    rw (r.slots_length, writing_sheet c.args.table.now (length c.args.map.now) r.map_room) at c.write_core.ensures
