-- `solver_text::pass_variables` meets its contract. Assumes nothing.
use mathlib.Core.Path.{◌≡◌, ◌∙◌}
use native.Mathlib.Omega.{arith}
use Prim.Native.Nat.{◌+◌}
use Rattle.std.specs.Prelude.{Some}
use Rattle.sheet.specs.Texts.{sign_at, variable_text}
use Rattle.solver_text.specs.Passing.{behind}
use Rattle.solver_text.proofs.Variables.{line_goes, line_end}
use Rattle.solver_text.proofs.pass_variables.Goals.{else-loop-k-test, then-loop-k-test+in_ok-rest+else-k-variables}
use Rattle.solver_text.proofs.pass_variables.Goals as goal

pub returns : goal.returns
returns c =
    let n = c.args.variables in
    let k = c.loop-k.k in
    let text = c.loop-k.rest.now in
    elim c.loop-k-test.branch [
      | else-loop-k-test w ↦ grind (arith, line_end)
      | then-loop-k-test+in_ok-rest+else-k-variables w ↦
          let rest = w.in_ok-rest.rest.now in
          let here : Some rest ≡ behind (variable_text (sign_at text) k) text = grind arith in
          let go = line_goes n k text (omega arith) rest here in
          (rw w.rest-is at c.pass_part.ensures) ∙ (rw (line_end n (k + 1) rest (omega arith)) at go) ∙ c.loop-k.invariant
    ]
