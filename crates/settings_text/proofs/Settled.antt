-- What decoding a model that was told comes to: the line of refusal 19, the settings' lines, or values that can be evaluated. Assumes nothing.
use Rattle.std.specs.Prelude.{Ok, Err}
use mathlib.Core.Path.{◌≡◌, sym, ap, ◌∙◌}
use mathlib.Core.Bool.{Bool, true, false}
use mathlib.Core.List.{List, [], ◌∷◌}
use Prim.Native.Nat.{ℕ, suc, ◌*◌, ◌/◌, ◌≤◌, ◌<◌}
use native.Mathlib.Omega.{arith}
use borrow.Author.Tests.{eq-eqb, le-ltb}
use lib.IntN.{ℤ, pos}
use lib.ListN.{length, replicate, get_or, take, drop, length-append, length-replicate}
use lib.Seq.{take_at}
use Rattle.whole.specs.Tests.{if◌then◌otherwise◌}
use Rattle.sheet.specs.declared.Fields.{Fields}
use Rattle.sheet.specs.declared.Reason.TheVariants.{NotABit, FalseClause}
use Rattle.sheet.specs.declared.Refusal.{Refusal}
use Rattle.sheet.specs.Rows.{uses, is_unknown}
use Rattle.sheet.specs.Values.{row_values, unknowns, Chosen}
use Rattle.sheet.specs.Acceptance.{refusal_number, Outcome, refused, Sheet, accept}
use Rattle.sheet.specs.Steps.{clauses, settings}
use Rattle.sheet.specs.Calls.{◌>>◌, refuse◌counting◌unless◌, unknown_count, assigned, decodable, decoding, left, settings_of}
use Rattle.sheet.specs.Texts.{refused_line, value_lines}
use Rattle.sheet.specs.Programs.{printed}
use Rattle.sheet.proofs.Accepted.{accepted_tells}
use Rattle.sheet.proofs.Called.{refused_not, same_accepted, then_accepts, first_false_lem}
use Rattle.promise.proofs.Assessor.{settings_meet_the_sheet}
use Rattle.promise.proofs.Counts.{counts_are_made}
use Rattle.table.specs.Accepted.{Accepted}
use Rattle.table.proofs.Buffers.{left_accepted}
use Rattle.table.proofs.Rowwise.{few_rows}
use Rattle.program.proofs.Rooms.{writing_sheet}
use Rattle.assign.specs.Model.{are_bits}
use Rattle.assign.specs.Clauses.{truths}
use Rattle.print.specs.Pages.{joined}
use Rattle.setting_lines.specs.Settings.{table_pieces}
use Rattle.setting_lines.proofs.Settings.{settings_joined}
use Rattle.setting_lines.proofs.Rows.{pieces_many, piece_fits}
use Rattle.settings_text.specs.Replies.{Told, told_by, told_text}
use Rattle.settings_text.proofs.Taking.{taken_accepted}

few_unknowns : (rows : List Fields) → length (unknowns rows) ≤ length rows
few_unknowns [] = omega arith
few_unknowns (f ∷ rows) = by (is_unknown (uses f.kind)) (few_unknowns rows)
  where
    by : (b : Bool) → length (unknowns rows) ≤ length rows → length (if b then f ∷ unknowns rows otherwise unknowns rows) ≤ suc (length rows)
    by true h = omega arith
    by false h = omega arith

-- pieces of 64 bytes at most
short_pieces : (pieces : List (List ℕ)) → ((k : ℕ) → k < length pieces → length (get_or pieces k []) ≤ 64) → length (joined pieces) ≤ 64 * length pieces
unfolding joined
short_pieces [] h = omega arith
short_pieces (piece ∷ pieces) h =
    rw (length-append piece (joined pieces)) (omega (arith, h 0 (omega arith), short_pieces pieces (λ k q. h (suc k) (omega arith))))

then_refused : {A B : Type 0} (o : Outcome A) (b : B) {refusal : Refusal} → (o >> Ok b) ≡ Err refusal → o ≡ Err refusal
then_refused (Err refusal) b e = cc
then_refused (Ok a) b e = refused_not (sym e)

-- map, slots and values as they are lent
abbrev pub map₀ : List ℤ
map₀ = replicate 12288 (pos 0)

abbrev pub slots₀ : List ℤ
slots₀ = replicate 16384 (pos 0)

abbrev pub values₀ : List ℤ
values₀ = replicate 256 (pos 0)

map_long : length map₀ ≡ 12288
map_long = length-replicate {A = ℤ} 12288 (pos 0)

slots_long : length slots₀ ≡ 16384
slots_long = length-replicate {A = ℤ} 16384 (pos 0)

values_long : length values₀ ≡ 256
values_long = length-replicate {A = ℤ} 256 (pos 0)

module _ (all : Bool) (table bytes : List ℕ) (t : Told table bytes) where
  abbrev sheet : Sheet
  sheet = t.taken.sheet

  is : accept table ≡ Ok sheet
  is = (taken_accepted t.taken).0

  pub accepted : Accepted sheet
  accepted = record { table = table; is = is }

  unknowns_few : unknown_count sheet ≤ 256
  unknowns_few = omega (arith, few_unknowns sheet.rows, few_rows accepted)

  abbrev could : Outcome Sheet
  could = decodable table 256 (length map₀) (length slots₀) bytes (length values₀)

  abbrev does : Outcome Sheet
  does = decoding table 256 (length map₀) (length slots₀) bytes (length values₀)

  bytes_pass : (refuse NotABit counting 0 unless are_bits bytes) ≡ Ok tt
  bytes_pass = rw (first_false_lem 0 (are_bits bytes), t.bits)

  could_is : could ≡ Ok sheet
  unfolding decodable
  could_is =
      rw (map_long, slots_long, values_long, writing_sheet table 12288 (omega arith), t.taken.is, eq-eqb (length bytes) sheet.counts.variables t.taken.many, bytes_pass, le-ltb 256 (unknown_count sheet) unknowns_few)

  -- a model that was told is decoded, of the sheet that is told
  pub decodes : {refusal : Refusal} {X : Type 0} → could ≡ Err refusal → X
  decodes e = refused_not (sym e ∙ could_is)

  pub tried_is : {s : Sheet} → could ≡ Ok s → sheet ≡ s
  tried_is e = same_accepted (sym could_is ∙ e)

  abbrev pub told_of : {s : Sheet} → could ≡ Ok s → Told table bytes
  told_of {s = s} e =
      record { taken = record { sheet = s; is = t.taken.is ∙ ap Ok (tried_is e); many = t.taken.many ∙ ap (λ (x : Sheet). x.counts.variables) (tried_is e) }; bits = t.bits }

  abbrev judged : Outcome (Unit {0})
  judged = refuse FalseClause counting 1 unless truths bytes (clauses sheet.rows)

  does_is : does ≡ (judged >> Ok sheet)
  unfolding decoding
  does_is = rw could_is

  text_is : {o : Outcome (Unit {0})} → judged ≡ o → told_text all table bytes ≡ printed (o >> Ok (told_by all sheet (assigned bytes)))
  unfolding told_text
  text_is q = rw (t.taken.is, q)

  pub clause_false : {clause : ℕ} → does ≡ refused FalseClause clause → told_text all table bytes ≡ refused_line (refusal_number FalseClause) clause
  clause_false e = text_is (then_refused judged sheet (sym does_is ∙ e))

  pub numerators_few : sheet.counts.unknowns ≤ 256
  numerators_few = omega (arith, (counts_are_made table sheet is).unknown, unknowns_few)

  -- no clause is false
  module _ (done : does ≡ Ok sheet) {values : List ℤ} (f : values ≡ left does (settings_of bytes) values₀) where
    passes : judged ≡ Ok tt
    passes = (then_accepts judged (sym does_is ∙ done)).1

    abbrev told : List ℤ
    told = settings sheet (assigned bytes)

    told_chosen : Chosen sheet.rows told
    told_chosen = (settings_meet_the_sheet table 256 (length map₀) (length slots₀) bytes (length values₀) sheet done).0

    same : take sheet.counts.unknowns values ≡ told
    same =
        ap (take sheet.counts.unknowns) (f ∙ sym (left_accepted (settings_of bytes) values₀ done))
        ∙ take_at told (drop (length told) values₀) sheet.counts.unknowns (told_chosen.within.number ∙ sym (counts_are_made table sheet is).unknown)

    pub chosen : Chosen sheet.rows (take sheet.counts.unknowns values)
    chosen = rw same told_chosen

    text_told : {b : Bool} → all ≡ b → told_text all table bytes ≡ told_by b sheet (assigned bytes)
    text_told h = text_is passes ∙ ap (λ (b : Bool). told_by b sheet (assigned bytes)) h

    pub settings_printed : all ≡ false → told_text all table bytes ≡ joined (table_pieces table (take sheet.counts.unknowns values))
    settings_printed h = text_told h ∙ rw same (sym (settings_joined table sheet is (assigned bytes)))

    pub values_printed : all ≡ true → told_text all table bytes ≡ value_lines (row_values sheet.rows (take sheet.counts.unknowns values))
    values_printed h = text_told h ∙ rw same

  pub pieces_short : (vs : List ℤ) → length (joined (table_pieces table vs)) ≤ 16384
  pieces_short vs =
      let n = length table / 8 in
      let a = accepted_tells table sheet is in
      let many = pieces_many n 0 table vs in
      omega (arith, short_pieces (table_pieces table vs) (λ k q. piece_fits k n table vs (omega (arith, many))), many, a.few, a.many)
