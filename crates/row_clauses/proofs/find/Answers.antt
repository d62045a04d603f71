-- `row_clauses::find` meets its contract. Assumes nothing.
use mathlib.Core.Path.{◌≡◌, sym, ap, ◌∙◌}
use mathlib.Core.List.{List}
use Prim.Native.Nat.{ℕ, ◌+◌, ◌≤◌, ◌<◌}
use borrow.Author.Tests.{ltb-false}
use lib.ListN.{length}
use Rattle.std.specs.Prelude.{Ok}
use Rattle.sheet.specs.declared.Record.{Record}
use Rattle.sheet.specs.Calls.{row_clauses}
use Rattle.std.proofs.lemmas.Result.{err_from_is_err_and}
use Rattle.sheet.specs.Acceptance.{missing, record_at, Sheet, accept}
use Rattle.table.proofs.Lent.{read_into, read_refused}
use Rattle.row_clauses.proofs.Answers.{by_refusal, by_slots, by_rows, by_record, inside}
use Rattle.row_clauses.proofs.find.Goals as goal

pub returns-in_err-read-clause-answer : goal.returns-in_err-read-clause-answer
returns-in_err-read-clause-answer c =
    let p = err_from_is_err_and c.from_residual.result c.from_residual.ensures.1 in
    rw (p.1, p.2) (by_refusal c.args.table.now c.args.room c.args.row _ (read_refused c.read.new.sheet c.read.ensures.answer c.in_err-read.was))

pub returns-then-room-needed-clause-answer : goal.returns-then-room-needed-clause-answer
returns-then-room-needed-clause-answer c =
    let is = read_into c.read.ensures.answer c.in_ok-read.was in
    let n = c.counts-needed.ensures in
    rw (c.at.ensures, n) (by_slots c.args.table.now c.args.room c.args.row _ is (rw n at c.if-room-needed.true))

-- a row that is found is among the table's
here : (room row : ℕ) (table : List ℕ) (sheet : Sheet) (r : Record) → accept table ≡ Ok sheet → sheet.counts.slots ≤ room → row < length sheet.records → r ≡ record_at sheet.records row
    → (Ok r ≡ row_clauses table room row) × (r.first + r.slots ≤ room)
here room row table sheet r is l h e = (ap Ok e ∙ by_record table room row sheet is l h, rw e (inside table room row sheet is l h))

pub returns-in-Some : goal.returns-in-Some
returns-in-Some c =
    let n = c.counts-needed.ensures in
    let e = c.records-records.ensures.records in
    let p = c.in-Some.ensures.lookup in
    let (answer, within) = here c.args.room c.args.row c.args.table.now c.read.new.sheet c.in-Some.own.now (read_into c.read.ensures.answer c.in_ok-read.was) (rw n at c.if-room-needed.false) (rw (ap length e) at p.3.0) (p.3.1 missing ∙ ap (λ (rs : List Record). record_at rs c.args.row) e) in
    record { answer = answer; within = within }

pub returns-in-None-clause-answer : goal.returns-in-None-clause-answer
returns-in-None-clause-answer c =
    let n = c.counts-needed.ensures in
    let many = ap length c.records-records.ensures.records in
    let h = ltb-false c.args.row _ (sym c.in-None.ensures.lookup.0) in
    rw (c.at-in-None.ensures, many) (by_rows c.args.table.now c.args.room c.args.row _ (read_into c.read.ensures.answer c.in_ok-read.was) (rw n at c.if-room-needed.false) (rw many at h))
