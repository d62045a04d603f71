-- `adder::put_bit` meets its contract. Assumes nothing.
use Rattle.frame.proofs.Loops.{left_all, left_none, gate_room, gate_step}
use Rattle.adder.specs.Adding.{adder_bit}
use Rattle.adder.proofs.put_bit.Goals as goal

pub xor-t-requires : goal.xor-t-requires
xor-t-requires c = gate_room (left_all (adder_bit c.args.a c.args.b c.args.carry) c.requires)

pub xor-s-requires : goal.xor-s-requires
xor-s-requires c = gate_room (gate_step (left_all (adder_bit c.args.a c.args.b c.args.carry) c.requires) c.xor-t.ensures)

pub maj-c-requires : goal.maj-c-requires
maj-c-requires c = gate_room (gate_step (gate_step (left_all (adder_bit c.args.a c.args.b c.args.carry) c.requires) c.xor-t.ensures) c.xor-s.ensures)

pub returns : goal.returns
returns c = left_none (gate_step (gate_step (gate_step (left_all (adder_bit c.args.a c.args.b c.args.carry) c.requires) c.xor-t.ensures) c.xor-s.ensures) c.maj-c.ensures)
