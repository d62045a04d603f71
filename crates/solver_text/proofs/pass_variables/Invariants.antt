-- `solver_text::pass_variables` meets its contract. Assumes nothing.
use mathlib.Core.Path.{◌≡◌}
use Rattle.sheet.specs.Texts.{variable_texts, signs_in}
use Rattle.solver_text.specs.Passing.{behind}
use Rattle.solver_text.proofs.Variables.{line_from}
use Rattle.solver_text.proofs.pass_variables.Given as goal

-- what is left of the line decides
abbrev pub invariant-loop-k : goal.invariant-loop-k
invariant-loop-k l = behind (line_from l.variables l.k l.rest) l.rest ≡ behind (variable_texts (signs_in l.variables 1 l.text) 1) l.text
