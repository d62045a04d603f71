-- `solver_text::judge` meets its contract. Assumes nothing.
use mathlib.Core.Path.{◌≡◌, ◌∙◌}
use native.Mathlib.Omega.{arith}
use lib.ListN.{drop}
use Rattle.std.specs.Prelude.{None, Some}
use Rattle.std.proofs.Common.{rules}
use Rattle.sheet.specs.Texts.{satisfiable, unsatisfiable, model_line, signs_in}
use Rattle.solver_text.specs.Passing.{behind}
use Rattle.solver_text.proofs.Claims.{first_wrong, line_wrong, line_there}
use Rattle.solver_text.proofs.judge.Goals as goal

pub returns-in_err-line : goal.returns-in_err-line
returns-in_err-line c =
    let none : None ≡ behind unsatisfiable c.args.text.now = rw c.in_default.is at c.pass_part.ensures in
    let gone = rw c.in_err-line.was at c.ok_or.ensures.ok_part in
    let some : None ≡ behind satisfiable c.args.text.now = rw gone at c.pass_part-2.ensures in
    rw (first_wrong c.args.variables c.args.text.now none some) (search rules)

pub returns-in_err-rest : goal.returns-in_err-rest
returns-in_err-rest c =
    let n = c.args.variables in
    let line = c.in_ok-line.line.now in
    let none : None ≡ behind unsatisfiable c.args.text.now = rw c.in_default.is at c.pass_part.ensures in
    let found = rw c.in_ok-line.was at c.ok_or.ensures.ok_part in
    let some : Some line ≡ behind satisfiable c.args.text.now = rw found at c.pass_part-2.ensures in
    let gone = rw c.in_err-rest.was at c.ok_or-2.ensures.ok_part in
    let wrong : None ≡ behind (model_line (signs_in n 1 (drop 2 line))) line = rw gone at c.pass_model.ensures in
    rw (line_wrong n c.args.text.now none line some wrong) (search rules)

pub returns : goal.returns
returns c =
    let n = c.args.variables in
    let line = c.in_ok-line.line.now in
    let rest = c.in_ok-rest.rest.now in
    let none : None ≡ behind unsatisfiable c.args.text.now = rw c.in_default.is at c.pass_part.ensures in
    let found = rw c.in_ok-line.was at c.ok_or.ensures.ok_part in
    let some : Some line ≡ behind satisfiable c.args.text.now = rw found at c.pass_part-2.ensures in
    let stands = rw c.in_ok-rest.was at c.ok_or-2.ensures.ok_part in
    let right : Some rest ≡ behind (model_line (signs_in n 1 (drop 2 line))) line = rw stands at c.pass_model.ensures in
    c.alone-2.ensures ∙ rw (line_there n c.args.text.now none line some rest right)
