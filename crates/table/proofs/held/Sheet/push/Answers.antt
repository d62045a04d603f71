-- `table::held::Sheet::push` meets its contract. Assumes nothing.
use Prim.Native.Nat.{◌<◌}
use native.Mathlib.Omega.{arith}
use lib.ListN.{length-set}
use Rattle.sheet.specs.Acceptance.{missing}
use Rattle.table.specs.Held.{no_row, taken}
use Rattle.table.proofs.Room.{free_behind}
use Rattle.table.proofs.held.Sheet.push.Goals as goal

pub invariant_of-self : goal.invariant_of-self
invariant_of-self c =
    let a = c.self.inside in
    let i = c.self.invariant in
    let h : a.count < 256 = omega (arith, taken a.count a.rows no_row i.few i.rows, rw (← c.self.view_is) at c.requires.room) in
    record {
      few = omega arith;
      rows = rw length-set i.rows;
      records = rw length-set i.records;
      rows_behind = free_behind 256 a.count a.rows no_row c.args.f i.rows_behind h (omega (arith, i.rows));
      records_behind = free_behind 256 a.count a.records missing c.args.passed.row i.records_behind h (omega (arith, i.records));
    }
