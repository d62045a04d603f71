-- No two different outcomes meet the contract of a call for C. Assumes nothing.
use mathlib.Core.Path.{◌≡◌, sym, ap, ◌∙◌}
use mathlib.Core.Bool.{true, false}
use Prim.Native.Nat.{ℕ}
use Rattle.whole.specs.Bits.{bit}
use Rattle.sheet.specs.Acceptance.{Outcome}
use Rattle.sheet.specs.Calls.{number_of, place_of}
use Rattle.promise.proofs.Outcomes as calls
use Rattle.fordrambler_c.specs.Told.{held, table_bytes, Tells}
use Rattle.fordrambler_c.specs.Outcomes.{OneCheck, OneMeasure, OneWrite, OneRow, OneEvaluation, OneExtension, OneDecoding, OneLines, OneLinesUntilEmpty, OneClaim}

-- where the answers are the same, so is what is told of them
module _ {A : Type 0} {owed other : Outcome A → Type 0} {n p m q : ℕ} (s : Tells owed n p) (t : Tells other m q) (e : s.answer ≡ t.answer) where
  one_told : (n ≡ m) × (p ≡ q)
  one_told = (s.says ∙ ap number_of e ∙ sym t.says, s.at ∙ ap place_of e ∙ sym t.at)

  one_held : (says : A → ℕ) (before : ℕ) {u v : ℕ} → u ≡ held s.answer says before → v ≡ held t.answer says before → u ≡ v
  one_held says before f g = f ∙ ap (λ (a : Outcome A). held a says before) e ∙ sym g

pub one_check : OneCheck
one_check table records₀ _ _ _ _ _ _ s t =
    let (e, records) = calls.one_check table records₀ s.answer t.answer _ _ s.owes t.owes in
    let (number, place) = one_told s t e in
    (number, place, records)

pub one_measure : OneMeasure
one_measure table variables₀ clauses₀ slots₀ _ _ _ _ _ _ _ _ _ _ s t =
    let e = calls.one_measure table s.answer t.answer s.owes.0 t.owes.0 in
    let (number, place) = one_told s t e in
    let c = s.owes.1 in
    let d = t.owes.1 in (
      number,
      place,
      one_held s t e (λ k. k.variables) variables₀ c.variables d.variables,
      one_held s t e (λ k. k.clauses) clauses₀ c.clauses d.clauses,
      one_held s t e (λ k. k.slots) slots₀ c.slots d.slots,
    )

pub one_write : OneWrite
one_write table records₀ map₀ slots₀ _ _ _ _ _ _ _ _ _ _ s t =
    let (e, records, map, slots) = calls.one_write table records₀ map₀ slots₀ s.answer t.answer _ _ _ _ _ _ s.owes t.owes in
    let (number, place) = one_told s t e in
    (number, place, records, map, slots)

pub one_row : OneRow
one_row table slots row first₀ count₀ _ _ _ _ _ _ _ _ s t = (s.says ∙ sym t.says, s.at ∙ sym t.at, s.first ∙ sym t.first, s.count ∙ sym t.count)

pub one_evaluation : OneEvaluation
one_evaluation table values results₀ _ _ _ _ _ _ s t =
    let (e, results) = calls.one_evaluation table values results₀ s.answer t.answer _ _ s.owes t.owes in
    let (number, place) = one_told s t e in
    (number, place, results)

pub one_extension : OneExtension
one_extension table values model₀ truth₀ _ _ _ _ _ _ _ _ s t =
    let (e, model) = calls.one_extension table values model₀ s.answer t.answer _ _ s.owes.0 t.owes.0 in
    let (number, place) = one_told s t e in
    (number, place, model, one_held s t e bit truth₀ s.owes.1 t.owes.1)

pub one_decoding : OneDecoding
one_decoding table records₀ map₀ slots₀ model values₀ _ _ _ _ _ _ _ _ _ _ _ _ s t =
    let (e, records, map, slots, values) = calls.one_decoding table records₀ map₀ slots₀ model values₀ s.answer t.answer _ _ _ _ _ _ _ _ s.owes t.owes in
    let (number, place) = one_told s t e in
    (number, place, records, map, slots, values)

pub one_lines : OneLines
one_lines text table₀ bytes₀ _ _ _ _ _ _ _ _ s t =
    let (e, table) = calls.one_reading false text table₀ s.answer t.answer _ _ s.owes.0 t.owes.0 in
    let (number, place) = one_told s t e in
    (number, place, table, one_held s t e table_bytes bytes₀ s.owes.1 t.owes.1)

pub one_lines_until_empty : OneLinesUntilEmpty
one_lines_until_empty text table₀ bytes₀ rest₀ ended₀ _ _ _ _ _ _ _ _ _ _ _ _ s t =
    let (e, table) = calls.one_reading true text table₀ s.answer t.answer _ _ s.owes.0 t.owes.0 in
    let (number, place) = one_told s t e in
    let (b, c) = s.owes.1 in
    let (d, g) = t.owes.1 in (
      number,
      place,
      table,
      one_held s t e table_bytes bytes₀ b d,
      one_held s t e (λ l. l.rest) rest₀ c.rest g.rest,
      one_held s t e (λ l. bit l.ended) ended₀ c.ended g.ended,
    )

pub one_claim : OneClaim
one_claim text variables model₀ claim₀ _ _ _ _ _ _ _ _ s t =
    let (e, model) = calls.one_claim text variables model₀ s.answer t.answer _ _ s.owes.0 t.owes.0 in
    let (number, place) = one_told s t e in
    (number, place, model, one_held s t e bit claim₀ s.owes.1 t.owes.1)
