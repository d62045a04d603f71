-- `frame::Number::push` meets its contract. Assumes nothing.
use Prim.Native.Nat.{◌<◌}
use native.Mathlib.Omega.{arith}
use lib.ListN.{length-set}
use Rattle.frame.specs.Held.{held_width}
use Rattle.frame.proofs.Frames.{replicate_rest}
use Rattle.frame.proofs.Number.push.Goals as goal

pub invariant_of-self : goal.invariant_of-self
invariant_of-self c =
    let a = c.self.inside in
    let h : a.width < 48 = omega (arith, held_width a c.self.invariant, rw (← c.self.view_is) at c.requires) in
    record {
      few = omega arith;
      places = rw length-set c.self.invariant.places;
      behind = replicate_rest a.width a.bits _ c.args.literal c.self.invariant.behind h (omega (arith, c.self.invariant.places));
    }
