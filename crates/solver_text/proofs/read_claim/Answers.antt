-- `solver_text::read_claim` meets its contract. Assumes nothing.
use mathlib.Core.Path.{◌≡◌, sym, ◌∙◌}
use native.Mathlib.Omega.{arith}
use Rattle.std.proofs.Common.{rules}
use lib.ListN.{length, drop}
use lib.Seq.{length-take-le}
use Rattle.frame.proofs.Frames.{rest_all}
use Rattle.sheet.proofs.Models.{told}
use Rattle.solver_text.proofs.Answers.{marked, variables_stand, too_short, claim_refused, claim_none, claim_model}
use Rattle.solver_text.proofs.read_claim.Goals as goal

pub returns-then-model-needed : goal.returns-then-model-needed
returns-then-model-needed c =
    let s = c.args in
    let told = too_short s.variables s.text.now s.model.now c.if-model-needed.true in
    record { answer = rw c.at.ensures told.0; model = told.1 }

pub returns-in_err-claimed : goal.returns-in_err-claimed
returns-in_err-claimed c =
    let s = c.args in
    let told = claim_refused s.variables s.text.now s.model.now c.if-model-needed.false _ (sym c.in_err-claimed.was ∙ c.judge.ensures) in
    record { answer = rw (← told.0) (search rules); model = told.1 }

pub slice_bounds-put_model-count : goal.slice_bounds-put_model-count
slice_bounds-put_model-count c =
    let s = c.args in
    marked s.variables s.text.now s.model.now c.if-model-needed.false (rw (c.in_ok-claimed.was, c.if-claimed.true) at c.judge.ensures)

pub slice_bounds-put_model-start : goal.slice_bounds-put_model-start
slice_bounds-put_model-start c =
    let s = c.args in
    marked s.variables s.text.now s.model.now c.if-model-needed.false (rw (c.in_ok-claimed.was, c.if-claimed.true) at c.judge.ensures)

pub put_model-requires : goal.put_model-requires
put_model-requires c =
    let s = c.args in
    variables_stand s.variables s.text.now s.model.now c.if-model-needed.false (rw (c.in_ok-claimed.was, c.if-claimed.true) at c.judge.ensures)

pub returns-then-claimed : goal.returns-then-claimed
returns-then-claimed c =
    let s = c.args in
    let claim = rw (c.in_ok-claimed.was, c.if-claimed.true) at c.judge.ensures in
    let many = length-take-le s.variables s.model.now c.if-model-needed.false in
    let long : length c.put_model.new.model ≡ s.variables = omega (arith, many) in
    let bytes = rw (rest_all 16 s.text.now, many) at c.put_model.ensures in
    let told = claim_model s.variables s.text.now s.model.now c.if-model-needed.false c.put_model.new.model long claim bytes in
    record { answer = rw c.if-claimed.true told.0; model = told.1 }

pub returns-else-claimed : goal.returns-else-claimed
returns-else-claimed c =
    let s = c.args in
    let told = claim_none s.variables s.text.now s.model.now c.if-model-needed.false (rw (c.in_ok-claimed.was, c.if-claimed.false) at c.judge.ensures) in
    record { answer = rw c.if-claimed.false told.0; model = told.1 }
