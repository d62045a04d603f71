-- `leaf_row::constant` meets its contract. Assumes nothing.
use Rattle.std.proofs.Common.{w64}
use Rattle.std.proofs.lemmas.Int.{to_z-of_z}
use Rattle.frame.proofs.Writing.{wrote_none}
use Rattle.leaf_row.proofs.constant.Goals as goal

pub returns : goal.returns
returns c =
    let e = rw (to_z-of_z w64 c.constant.result (record { sfits = c.constant.type_inv }), c.constant.ensures.value) at c.constant-2.ensures in
    λ z slots. record { wrote = wrote_none c.args.from slots; literals = e }
