-- What is found of a row, by acceptance. Assumes nothing.
use Rattle.std.specs.Prelude.{Ok, Err}
use mathlib.Core.Path.{◌≡◌}
use mathlib.Core.List.{List, []}
use Prim.Native.Nat.{ℕ, ◌+◌, ◌≤◌, ◌<◌}
use native.Mathlib.Omega.{arith}
use borrow.Author.Tests.{lt-ltb, le-ltb, le-leb, lt-leb}
use lib.IntN.{ℤ}
use lib.ListN.{length, take, drop}
use Rattle.sheet.specs.declared.Reason.TheVariants.{FewSlots, NoSuchRow}
use Rattle.sheet.specs.declared.Record.{Record}
use Rattle.sheet.specs.declared.Refusal.{Refusal}
use Rattle.sheet.specs.Acceptance.{refusal_number, refused, record_at, Sheet, accept}
use Rattle.sheet.specs.Calls.{row_clauses, part}
use Rattle.sheet.specs.Relations.{GivesRow}
use Rattle.promise.proofs.Counts.{counts_are_made}
use Rattle.promise.proofs.Parts.{part_inside}

module _ (table : List ℕ) (room row : ℕ) where
  pub by_refusal : (refusal : Refusal) → accept table ≡ Err refusal → Err refusal ≡ row_clauses table room row
  unfolding row_clauses
  by_refusal refusal is = rw is

  module _ (sheet : Sheet) (is : accept table ≡ Ok sheet) where
    pub by_slots : room < sheet.counts.slots → refused FewSlots sheet.counts.slots ≡ row_clauses table room row
    unfolding row_clauses
    by_slots h = rw (is, lt-ltb room sheet.counts.slots h)

    pub by_rows : sheet.counts.slots ≤ room → length sheet.records ≤ row → refused NoSuchRow (length sheet.records) ≡ row_clauses table room row
    unfolding row_clauses
    by_rows l h = rw (is, le-ltb room sheet.counts.slots l, le-leb (length sheet.records) row h)

    pub by_record : sheet.counts.slots ≤ room → row < length sheet.records → Ok (record_at sheet.records row) ≡ row_clauses table room row
    unfolding row_clauses
    by_record l h = rw (is, le-ltb room sheet.counts.slots l, lt-leb (length sheet.records) row h)

    pub inside : sheet.counts.slots ≤ room → row < length sheet.records → (record_at sheet.records row).first + (record_at sheet.records row).slots ≤ room
    inside l h =
        let c = counts_are_made table sheet is in
        omega (arith, part_inside table sheet is row (omega (arith, c.records)), c.slot)

-- the part, and the two numbers
module _ (table : List ℕ) (slots : List ℤ) (row : ℕ) where
  pub gives : {r : Record} → row_clauses table (length slots) row ≡ Ok r → GivesRow table slots row (take r.slots (drop r.first slots)) 0 0
  unfolding part
  gives is = record { gives = rw is; number = rw is; place = rw is }

  pub gives_none : {refusal : Refusal} → row_clauses table (length slots) row ≡ Err refusal → GivesRow table slots row [] (refusal_number refusal.reason) refusal.place
  unfolding part
  gives_none is = record { gives = rw is; number = rw is; place = rw is }
