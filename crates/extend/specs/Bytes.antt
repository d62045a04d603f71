-- Bits put into a model, a byte a bit. Assumes nothing.
use Rattle.std.specs.Prelude.{◌≡◌, Bool, List, map, ◌+◌, ◌≤◌, length}
use Rattle.whole.specs.Bits.{bit}
use Rattle.frame.specs.Frame.{over}
use Rattle.extend.specs.declared.PartialModel.{PartialModel}

-- there are bytes for the bits
pub record Room (bs : List Bool) (model : PartialModel) : Type 0 where
  pub place : model.at + length bs ≤ length model.bytes.now

-- the bits are put, into the same bytes
pub record Put (bs : List Bool) (before after : PartialModel) : Type 0 where
  pub bits : after.bytes.now ≡ over before.at (map bit bs) before.bytes.now
  pub place : after.at ≡ before.at + length bs
  pub kept : length after.bytes.now ≡ length before.bytes.now
  pub lent : after.bytes.ghost_name ≡ before.bytes.ghost_name
