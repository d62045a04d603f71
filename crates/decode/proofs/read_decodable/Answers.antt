-- `decode::read_decodable` meets its contract. Assumes nothing.
use mathlib.Core.Path.{sym, ap, ◌∙◌}
use Rattle.circuit.specs.declared.Counts.{Counts}
use Rattle.table.proofs.Lent.{read_into}
use Rattle.decode.proofs.Chain.{by_byte, by_room, by_none}
use Rattle.decode.proofs.read_decodable.Goals as goal

pub returns-in-Some-clause-answer : goal.returns-in-Some-clause-answer
returns-in-Some-clause-answer c =
    let a = c.args in
    rw c.at-in-Some.ensures
    (by_byte a.table.now a.records a.map a.slots a.model.now a.values (read_into c.read_fitting.ensures.answer c.in_ok-read_fitting.was) (c.if-model-variables.false ∙ ap (λ (k : Counts). k.variables) c.counts-counts.ensures) (sym c.first_not_bit.ensures ∙ c.in-Some.is))

pub returns-then-values-unknowns-clause-answer : goal.returns-then-values-unknowns-clause-answer
returns-then-values-unknowns-clause-answer c =
    let a = c.args in
    let n = c.counts-counts.ensures in
    rw (c.at-then-values-unknowns.ensures, n)
    (by_room a.table.now a.records a.map a.slots a.model.now a.values (read_into c.read_fitting.ensures.answer c.in_ok-read_fitting.was) (c.if-model-variables.false ∙ ap (λ (k : Counts). k.variables) n) (sym c.first_not_bit.ensures ∙ c.in_default.is) (rw n at c.if-values-unknowns.true))

pub returns-clause-answer : goal.returns-clause-answer
returns-clause-answer c =
    let a = c.args in
    let n = c.counts-counts.ensures in
    by_none a.table.now a.records a.map a.slots a.model.now a.values (read_into c.read_fitting.ensures.answer c.in_ok-read_fitting.was) (c.if-model-variables.false ∙ ap (λ (k : Counts). k.variables) n) (sym c.first_not_bit.ensures ∙ c.in_default.is) (rw n at c.if-values-unknowns.false)
