-- `cost_text::print_costs` meets its contract. Assumes nothing.
use mathlib.Core.Path.{ap}
use native.Mathlib.Omega.{arith}
use lib.ListN.{length}
use Rattle.table.proofs.Lent.{read_into, read_refused}
use Rattle.sheet.proofs.Accepted.{accepted_tells}
use Rattle.print.proofs.Pieces.{piece_whole}
use Rattle.cost_text.specs.Costs.{cost_text}
use Rattle.cost_text.proofs.Output.{refusal_printed, costs_printed}
use Rattle.cost_text.proofs.print_costs.Goals as goal

pub cost_lines-requires : goal.cost_lines-requires
cost_lines-requires c =
    let few = (accepted_tells c.args.table.now c.read.new.sheet (read_into c.read.ensures.answer c.in-Ok.is)).few in
    omega (arith, few, ap length c.records.ensures.records, c.requires)

pub returns-in-Ok : goal.returns-in-Ok
returns-in-Ok c = rw (c.records.ensures.records, ← costs_printed c.args.table.now (read_into c.read.ensures.answer c.in-Ok.is)) at c.cost_lines.ensures

pub returns-in-Err : goal.returns-in-Err
returns-in-Err c =
    let line = refusal_printed c.args.table.now (read_refused c.read.new.sheet c.read.ensures.answer c.in-Err.is) in
    let whole = piece_whole (cost_text c.args.table.now) c.args.out.now (omega (arith, c.requires)) in
    rw (← line, whole) at c.refusal_line.ensures
