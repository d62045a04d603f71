-- `compare::put_order` meets its contract. Assumes nothing.
use Rattle.frame.proofs.Loops.{left_all, left_none, gate_room, gate_step}
use Rattle.compare.specs.Comparing.{order_bit}
use Rattle.compare.proofs.put_order.Goals as goal

pub xor-d-requires : goal.xor-d-requires
xor-d-requires c = gate_room (left_all (order_bit c.args.a c.args.b c.args.p c.args.g) c.requires)

pub mux-requires : goal.mux-requires
mux-requires c = gate_room (gate_step (left_all (order_bit c.args.a c.args.b c.args.p c.args.g) c.requires) c.xor-d.ensures)

pub returns : goal.returns
returns c = left_none (gate_step (gate_step (left_all (order_bit c.args.a c.args.b c.args.p c.args.g) c.requires) c.xor-d.ensures) c.mux.ensures)
