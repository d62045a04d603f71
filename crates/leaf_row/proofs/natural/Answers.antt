-- `leaf_row::natural` meets its contract. Assumes nothing.
use Rattle.std.proofs.Common.{◌≡◌, ◌∙◌, ap, arith, length, []}
use Rattle.circuit.specs.Numbers.{unknown}
use Rattle.leaf_row.proofs.Fresh.{unknown_length, row_value, signed_row}
use Rattle.leaf_row.proofs.natural.Goals as goal

pub push-requires : goal.push-requires
push-requires c =
    let p = c.args.p in
    let e : length c.integer-made.result.value ≡ p = ap length (row_value 0 (unknown p) (c.integer-made.ensures 0 [])) ∙ unknown_length c.args.from.next p in
    omega arith

pub returns : goal.returns
returns c = λ z slots. signed_row z (unknown c.args.p) (c.integer-made.ensures z slots) c.push.ensures
