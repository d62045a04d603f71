-- `number_row::bring` meets its contract. Assumes nothing.
use Rattle.number_row.proofs.Bringing.{factor_below, first_room, second_room, pair_made, pair_wide}
use Rattle.number_row.proofs.bring.Goals as goal

pub expansion-x-requires-clause-factor : goal.expansion-x-requires-clause-factor
expansion-x-requires-clause-factor c = factor_below _ _ _ _ c.lcm-common.ensures.value c.requires.over_a.denominator c.requires.over_b.denominator

pub expansion-x-requires-clause-room : goal.expansion-x-requires-clause-room
expansion-x-requires-clause-room c = first_room c.args.a.now c.args.b.now c.lcm-common.result c.lcm-common.ensures.value c.requires.room

pub expansion-y-requires-clause-factor : goal.expansion-y-requires-clause-factor
expansion-y-requires-clause-factor c = factor_below _ _ _ _ c.lcm-common.ensures.value c.requires.over_a.denominator c.requires.over_b.denominator

pub expansion-y-requires-clause-room : goal.expansion-y-requires-clause-room
expansion-y-requires-clause-room c = second_room c.args.a.now c.args.b.now c.lcm-common.result c.lcm-common.ensures.value c.requires.room c.expansion-x.ensures

pub returns : goal.returns
returns c =
    let a = c.args.a.now in
    let b = c.args.b.now in
    let e = c.lcm-common.ensures.value in
    record {
      makes = pair_made a b c.lcm-common.result e c.requires.room c.expansion-x.ensures c.expansion-y.ensures;
      wide = pair_wide a b c.lcm-common.result e c.requires.room c.expansion-x.ensures c.expansion-y.ensures c.requires.over_a c.requires.over_b;
    }
