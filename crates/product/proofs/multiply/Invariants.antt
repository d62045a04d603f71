-- `product::multiply` meets its contract. Assumes nothing.
use mathlib.Core.Path.{◌≡◌}
use mathlib.Core.List.{◌++◌}
use Prim.Native.Nat.{◌+◌, ◌≤◌}
use lib.ListN.{length, take, drop}
use Rattle.circuit.specs.Numbers.{multiplier, add_rows}
use Rattle.frame.proofs.Loops.{Filling}
use Rattle.product.proofs.multiply.Given as goal

-- the rows of the bits that are left, are left
abbrev pub invariant-loop-bit : goal.invariant-loop-bit
invariant-loop-bit l = record {
  few : length l.product + length l.total.value ≤ 48;
  filling : Filling l.fn.from (multiplier l.x l.fn.y) l.fn.slots l.slots l.total.to l.product (add_rows (drop l.bit-index l.others) l.x l.total.value);
}

abbrev pub invariant-loop-literal : goal.invariant-loop-literal
invariant-loop-literal l = l.product ≡ l.initial.product ++ take l.literal-index l.literal-items
