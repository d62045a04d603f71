-- `number_row::product` meets its contract. Assumes nothing.
use mathlib.Core.Path.{refl}
use Prim.Native.Nat.{◌*◌}
use Rattle.circuit.specs.Numbers.{product}
use Rattle.sheet.specs.Steps.{cell}
use Rattle.number_row.proofs.Bringing.{row_room, row_made}
use Rattle.number_row.proofs.product.Goals as goal

pub product-requires-clause-room : goal.product-requires-clause-room
product-requires-clause-room c = row_room (product c.args.a.now.number c.args.b.now.number) (λ ls. cell ls (c.args.a.now.record.denominator * c.args.b.now.record.denominator)) c.requires.room

pub returns : goal.returns
returns c = row_made (product c.args.a.now.number c.args.b.now.number) (λ ls. cell ls (c.args.a.now.record.denominator * c.args.b.now.record.denominator)) c.requires.room c.product.ensures refl refl
