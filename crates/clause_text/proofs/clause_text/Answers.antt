-- `clause_text::clause_text` meets its contract. Assumes nothing.
use mathlib.Core.Path.{◌≡◌, sym, ◌∙◌}
use native.Mathlib.Omega.{arith}
use borrow.Author.Rules.{rules}
use lib.ListN.{length}
use Rattle.sheet.specs.Programs.{clause_program}
use Rattle.print.proofs.Pieces.{piece_whole}
use Rattle.clause_text.proofs.Output.{refusal_printed, slots_fit, clauses_printed}
use Rattle.clause_text.proofs.clause_text.Goals as goal

pub print_clauses-requires : goal.print_clauses-requires
print_clauses-requires c =
    let fit = slots_fit c.args.input.now (rw c.used.ensures at (sym c.clauses_in.ensures.answer ∙ c.in-Ok.is)) in
    let long : length c.clauses_in.new.slots ≡ 16384 = search rules in
    record { slots_room = omega (arith, fit, long); out_room = omega (arith, fit, c.requires) }

pub returns-in-Ok : goal.returns-in-Ok
returns-in-Ok c =
    let e = rw c.used.ensures at (sym c.clauses_in.ensures.answer ∙ c.in-Ok.is) in
    let slots = rw c.used.ensures at c.clauses_in.ensures.slots in
    let text = clauses_printed c.args.input.now e _ slots in
    rw (← text) at c.print_clauses.ensures

pub returns-in-Err : goal.returns-in-Err
returns-in-Err c =
    let line = refusal_printed c.args.input.now (rw c.used.ensures at (sym c.clauses_in.ensures.answer ∙ c.in-Err.is)) in
    let whole = piece_whole (clause_program c.args.input.now) c.args.out.now (omega (arith, c.requires)) in
    rw (← line, whole) at c.refusal_line.ensures
