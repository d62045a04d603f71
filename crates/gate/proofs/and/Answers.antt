-- `gate::and` meets its contract. Assumes nothing.
use mathlib.Core.Path.{ap, ◌∙◌}
use Rattle.circuit.specs.Literals.{neg, slot}
use Rattle.circuit.specs.Gates.{and}
use Rattle.frame.specs.Written.{written}
use Rattle.frame.proofs.Slots.{held}
use Rattle.frame.proofs.Writing.{room_gate, makes_gate}
use Rattle.gate.proofs.and.Goals as goal

pub put-requires-clause-place : goal.put-requires-clause-place
put-requires-clause-place c = (room_gate (and c.args.a c.args.b) c.requires).0

pub returns : goal.returns
unfolding written
returns c =
    let p = c.put.ensures in
    let g-is = held c.slot-g.type_inv (c.slot-g.ensures ∙ ap slot c.fresh-literal.ensures) in
    let ng-is = held c.slot-ng.type_inv (c.slot-ng.ensures ∙ ap slot (c.neg.ensures ∙ ap neg c.fresh-literal.ensures)) in
    let a-is = held c.slot-a.type_inv c.slot-a.ensures in
    let na-is = held c.slot-na.type_inv (c.slot-na.ensures ∙ ap slot c.neg-2.ensures) in
    let b-is = held c.slot-b.type_inv c.slot-b.ensures in
    let nb-is = held c.slot-nb.type_inv (c.slot-nb.ensures ∙ ap slot c.neg-3.ensures) in
    makes_gate (and c.args.a c.args.b) p.slots (simp (g-is, ng-is, a-is, na-is, b-is, nb-is)) (p.literal ∙ c.fresh-literal.ensures) p.place p.number
