-- The assessor's sentences across the public calls. Assumes nothing.
use Rattle.std.specs.Prelude.{Ok}
use mathlib.Core.Path.{◌≡◌, sym, ◌∙◌, ap, subst}
use mathlib.Core.Bool.{Bool, true, false}
use mathlib.Core.List.{List, map}
use Prim.Native.Nat.{ℕ, ◌*◌, ◌≤◌}
use native.Mathlib.Omega.{arith}
use borrow.Author.Tests.{le-ltb}
use lib.Dec.{ltb}
use lib.ListN.{length, take, drop, length-map}
use lib.Seq.{take_at}
use lib.IntN.{ℤ}
use Rattle.whole.specs.Bits.{bit}
use Rattle.sheet.specs.declared.Record.{Record}
use Rattle.sheet.specs.declared.Reason.TheVariants.{ShortBuffer}
use Rattle.sheet.specs.Values.{Chosen}
use Rattle.sheet.specs.Acceptance.{Outcome, Sheet, accept}
use Rattle.sheet.specs.Steps.{settings, extension}
use Rattle.sheet.specs.Calls.{row_count, checking, writing, choosing, extending, decoding, left, model_of, settings_of, constraint, done}
use Rattle.sheet.specs.Relations.{Measures, Extends, Decodes}
use Rattle.sheet.proofs.Accepted.{accepted_tells}
use Rattle.sheet.proofs.Called.{same_accepted, bound_accepts, then_accepts, not_refused, choosing_tells}
use Rattle.promise.specs.Across.{EvaluatesTo, DecodedMeetTheSheet, ExtendedDecodesBack, ExtendedNotLost, ExtendedAsEvaluated}
use Rattle.promise.proofs.Counts.{counts_are_made}
use Rattle.promise.proofs.Promise.{demand_three}
use Rattle.promise.proofs.Assessor.{decoding_tells, bits_back, settings_meet_the_sheet, none_lost}
use Rattle.promise.proofs.Evaluated.{evaluated}

-- what a call that is done writes stands at the front of the buffer
module _ {A : Type 0} where
  written_front : (sheet : Sheet) (written : Sheet → List A) (n : ℕ) → length (written sheet) ≡ n → (o : Outcome Sheet) → o ≡ Ok sheet → (before : List A) → take n (left o written before) ≡ written sheet
  unfolding left
  written_front sheet written n many o e before = rw e (take_at (written sheet) (drop (length (written sheet)) before) n many)

pub measured : (table : List ℕ) (sheet : Sheet) → accept table ≡ Ok sheet → Measures table (Ok sheet.counts)
measured table sheet e = record { says = rw e }

-- ---- what a call tells that is done

-- extending has told a truth: of an accepted table and chosen values, whose model it wrote
pub record Told (table : List ℕ) (values : List ℤ) (b : Bool) (model₁ : List ℕ) : Type 0 where
  pub sheet : Sheet
  pub is_sheet : accept table ≡ Ok sheet
  pub chosen : Chosen sheet.rows values
  pub truth_is : constraint sheet values ≡ b
  pub model_is : take sheet.counts.variables model₁ ≡ model_of values sheet

extending_tells : (table : List ℕ) (values : List ℤ) (room : ℕ) (sheet : Sheet) → extending table values room ≡ Ok sheet → (accept table ≡ Ok sheet) × Chosen sheet.rows values
unfolding extending
extending_tells table values room sheet e =
    let (a, chooses, rest) = bound_accepts (choosing table values) e in
    let same = (not_refused ShortBuffer a.counts.variables (ltb room a.counts.variables) rest).1 in
    choosing_tells table values (chooses ∙ same)

pub extends_tells : (table : List ℕ) (values : List ℤ) (model₀ model₁ : List ℕ) (b : Bool) → Extends table values model₀ (Ok b) model₁ → Told table values b model₁
extends_tells table values model₀ model₁ b x =
    let (sheet, o, t) = bound_accepts (extending table values (length model₀)) (sym x.says) in
    let (e, chosen) = extending_tells table values (length model₀) sheet o in
    let one = (demand_three table sheet e values chosen).one in
    let long : length (model_of values sheet) ≡ sheet.counts.variables = length-map (extension sheet.rows values) bit ∙ one.sized in
    record {
      sheet = sheet;
      is_sheet = e;
      chosen = chosen;
      truth_is = same_accepted t;
      model_is = ap (take sheet.counts.variables) x.model ∙ written_front sheet (model_of values) sheet.counts.variables long (extending table values (length model₀)) o model₀;
    }

-- decoding is done: the settings stand in front of the values
module _ (table : List ℕ) (records₀ records₁ : List Record) (map₀ map₁ slots₀ slots₁ : List ℤ) (model : List ℕ) (values₀ values₁ : List ℤ) (answer : Outcome (Unit {0}))
    (d : Decodes table records₀ map₀ slots₀ model values₀ answer records₁ map₁ slots₁ values₁) where
  abbrev outcome : Outcome Sheet
  outcome = decoding table (length records₀) (length map₀) (length slots₀) model (length values₀)

  settled : (sheet : Sheet) → outcome ≡ Ok sheet → take sheet.counts.unknowns values₁ ≡ settings_of model sheet
  settled sheet o =
      let e = (decoding_tells table (length records₀) (length map₀) (length slots₀) model (length values₀) sheet o).0.is_sheet in
      let chosen = (settings_meet_the_sheet table (length records₀) (length map₀) (length slots₀) model (length values₀) sheet o).0 in
      ap (take sheet.counts.unknowns) d.values ∙ written_front sheet (settings_of model) sheet.counts.unknowns (chosen.within.number ∙ sym (counts_are_made table sheet e).unknown) outcome o values₀

pub writes : (table : List ℕ) (sheet : Sheet) → accept table ≡ Ok sheet → (records map slots : ℕ) → row_count sheet ≤ records → 48 * row_count sheet ≤ map → sheet.counts.slots ≤ slots
    → writing table records map slots ≡ Ok sheet
unfolding writing checking
writes table sheet e records map slots r m s =
    let t₁₁ : ltb records (row_count sheet) ≡ false = le-ltb records (row_count sheet) r in
    let t₁₂ : ltb map (48 * row_count sheet) ≡ false = le-ltb map (48 * row_count sheet) m in
    let t₁₃ : ltb slots sheet.counts.slots ≡ false = le-ltb slots sheet.counts.slots s in
    rw (e, t₁₁, t₁₂, t₁₃)

-- ---- the sentences

pub decoded_meet_the_sheet : DecodedMeetTheSheet
decoded_meet_the_sheet table records₀ records₁ map₀ map₁ slots₀ slots₁ model values₀ values₁ d =
    let o = decoding table (length records₀) (length map₀) (length slots₀) model (length values₀) in
    let (sheet, is, _) = then_accepts o (sym d.says) in
    let e = (decoding_tells table (length records₀) (length map₀) (length slots₀) model (length values₀) sheet is).0.is_sheet in
    let (chosen, holds) = settings_meet_the_sheet table (length records₀) (length map₀) (length slots₀) model (length values₀) sheet is in
    let t : EvaluatesTo true table (settings_of model sheet) = subst (λ (b : Bool). EvaluatesTo b table (settings_of model sheet)) holds (evaluated table sheet e (settings_of model sheet) chosen) in
    (sheet.counts, measured table sheet e, subst (λ (vs : List ℤ). EvaluatesTo true table vs) (sym (settled table records₀ records₁ map₀ map₁ slots₀ slots₁ model values₀ values₁ (Ok tt) d sheet is)) t)

pub extended_decodes_back : ExtendedDecodesBack
extended_decodes_back table values model₀ model₁ b x =
    let t = extends_tells table values model₀ model₁ b x in
    let sheet = t.sheet in
    let model = take sheet.counts.variables model₁ in
    let back = (demand_three table sheet t.is_sheet values t.chosen).one.reads in (
      sheet.counts,
      measured table sheet t.is_sheet,
      λ records₀ records₁ map₀ map₁ slots₀ slots₁ values₀ values₁ d.
          let o = decoding table (length records₀) (length map₀) (length slots₀) model (length values₀) in
          let (a, is, _) = then_accepts o (sym d.says) in
          let e = (decoding_tells table (length records₀) (length map₀) (length slots₀) model (length values₀) a is).0.is_sheet in
          let same : a ≡ sheet = same_accepted (sym e ∙ t.is_sheet) in
          settled table records₀ records₁ map₀ map₁ slots₀ slots₁ model values₀ values₁ (Ok tt) d sheet (is ∙ ap Ok same)
          ∙ ap (λ (m : List ℕ). settings_of m sheet) t.model_is ∙ ap (settings sheet) (bits_back (extension sheet.rows values)) ∙ back,
    )

pub extended_not_lost : ExtendedNotLost
extended_not_lost table values model₀ model₁ x =
    let t = extends_tells table values model₀ model₁ true x in
    let sheet = t.sheet in
    let many = (accepted_tells table sheet t.is_sheet).many in
    let unknown = (counts_are_made table sheet t.is_sheet).unknown in
    let model = take sheet.counts.variables model₁ in (
      sheet.counts,
      measured table sheet t.is_sheet,
      λ records₀ records₁ map₀ map₁ slots₀ slots₁ values₀ values₁ answer room d.
          let written = writes table sheet t.is_sheet (length records₀) (length map₀) (length slots₀) (omega (arith, room.record_room)) (omega (arith, room.map_room)) room.slot_room in
          let (o, back) = none_lost table (length records₀) (length map₀) (length slots₀) (length values₀) sheet written (omega (arith, room.value_room)) values t.chosen t.truth_is in
          let is = subst (λ (m : List ℕ). decoding table (length records₀) (length map₀) (length slots₀) m (length values₀) ≡ Ok sheet) (sym t.model_is) o in (
            d.says ∙ ap done is,
            settled table records₀ records₁ map₀ map₁ slots₀ slots₁ model values₀ values₁ answer d sheet is ∙ ap (λ (m : List ℕ). settings_of m sheet) t.model_is ∙ back,
          ),
    )

pub extended_as_evaluated : ExtendedAsEvaluated
extended_as_evaluated table values model₀ model₁ b x =
    let t = extends_tells table values model₀ model₁ b x in
    subst (λ (c : Bool). EvaluatesTo c table values) t.truth_is (evaluated table t.sheet t.is_sheet values t.chosen)
