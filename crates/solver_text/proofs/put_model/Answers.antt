-- `solver_text::put_model` meets its contract. Assumes nothing.
use native.Mathlib.Omega.{arith}
use Rattle.solver_text.proofs.Variables.{left_within, left_step, left_none}
use Rattle.solver_text.proofs.put_model.Goals as goal

pub slice_bounds-rest-count : goal.slice_bounds-rest-count
slice_bounds-rest-count c =
    left_within c.loop-i.invariant (omega arith) c.sign_at-sign.ensures c.variable_length.ensures

pub slice_bounds-rest-start : goal.slice_bounds-rest-start
slice_bounds-rest-start c =
    left_within c.loop-i.invariant (omega arith) c.sign_at-sign.ensures c.variable_length.ensures

pub loop-i-preserved : goal.loop-i-preserved
loop-i-preserved c =
    left_step c.loop-i.invariant (omega arith) c.sign_at-sign.ensures c.variable_length.ensures

pub returns : goal.returns
returns c = left_none c.loop-i.invariant (omega arith)
