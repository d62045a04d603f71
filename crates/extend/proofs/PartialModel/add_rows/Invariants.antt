-- `extend::PartialModel::add_rows` meets its contract. Assumes nothing.
use Rattle.trace.specs.Traces.{adding_rows}
use Rattle.extend.proofs.Rows.{Rows}
use Rattle.extend.proofs.PartialModel.add_rows.Given as goal

abbrev pub invariant-loop-left : goal.invariant-loop-left
invariant-loop-left l = Rows l.fn.self (adding_rows l.fn.w l.x l.fn.y l.fn.total) l.self l.left l.x l.y l.total
