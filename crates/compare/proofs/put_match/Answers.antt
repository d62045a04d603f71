-- `compare::put_match` meets its contract. Assumes nothing.
use Rattle.frame.proofs.Loops.{left_all, left_none, gate_room, gate_step}
use Rattle.compare.specs.Comparing.{match_bit}
use Rattle.compare.proofs.put_match.Goals as goal

pub xor-d-requires : goal.xor-d-requires
xor-d-requires c = gate_room (left_all (match_bit c.args.a c.args.b c.args.e) c.requires)

pub and-requires : goal.and-requires
and-requires c = rw c.neg.ensures (gate_room (gate_step (left_all (match_bit c.args.a c.args.b c.args.e) c.requires) c.xor-d.ensures))

pub returns : goal.returns
returns c = left_none (gate_step (gate_step (left_all (match_bit c.args.a c.args.b c.args.e) c.requires) c.xor-d.ensures) (rw c.neg.ensures at c.and.ensures))
