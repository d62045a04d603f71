-- `write::write_core` meets its contract. Assumes nothing.
use mathlib.Core.Path.{◌∙◌}
use lib.ListN.{length}
use Rattle.frame.specs.Frame.{front}
use Rattle.sheet.specs.Calls.{sheet_map, sheet_slots}
use Rattle.table.proofs.Buffers.{left_refused, left_accepted}
use Rattle.table.proofs.Lent.{read_into, read_refused}
use Rattle.write.proofs.Fitted.{fitted}
use Rattle.write.proofs.write_core.Goals as goal

pub returns-in_err-read_fitting-clause-map : goal.returns-in_err-read_fitting-clause-map
returns-in_err-read_fitting-clause-map c = left_refused sheet_map c.args.map.now (read_refused c.read_fitting.new.sheet c.read_fitting.ensures.answer c.in_err-read_fitting.was)

pub returns-in_err-read_fitting-clause-slots : goal.returns-in_err-read_fitting-clause-slots
returns-in_err-read_fitting-clause-slots c = left_refused sheet_slots c.args.slots.now (read_refused c.read_fitting.new.sheet c.read_fitting.ensures.answer c.in_err-read_fitting.was)

pub write_table-requires : goal.write_table-requires
write_table-requires c =
    let f = fitted c.args.table.now c.args.records (length c.args.map.now) (length c.args.slots.now) (read_into c.read_fitting.ensures.answer c.in_ok-read_fitting.was) in
    record { accepted = f.accepted; map_room = f.map_room; slot_room = f.slot_room }

pub returns-clause-map : goal.returns-clause-map
unfolding front
returns-clause-map c = c.write_table.ensures.map ∙ left_accepted sheet_map c.args.map.now (read_into c.read_fitting.ensures.answer c.in_ok-read_fitting.was)

pub returns-clause-slots : goal.returns-clause-slots
unfolding front
returns-clause-slots c = c.write_table.ensures.slots ∙ left_accepted sheet_slots c.args.slots.now (read_into c.read_fitting.ensures.answer c.in_ok-read_fitting.was)
