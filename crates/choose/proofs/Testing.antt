-- The tests of the values: each unknown takes the next. Assumes nothing.
use Rattle.std.proofs.Common.{◌≡◌, refl, ap, ◌∙◌, Bool, true, false, not, List, [], ◌∷◌, ℕ, ◌+◌, ◌<◌, ltb, length, get_or, suc, Ok, Option, Some, None, cond, ℤ, arith, zero-add}
use Rattle.std.specs.List.{All, filter, zip, position, position_or_len}
use Rattle.std.proofs.lemmas.List.Elements.{All-filter}
use Rattle.std.proofs.lemmas.Slice.Zip.{length-zip, get_or-zip}
use Rattle.whole.specs.Tests.{if◌then◌otherwise◌}
use Rattle.sheet.specs.declared.Fields.{Fields}
use Rattle.sheet.specs.declared.Reason.{Reason}
use Rattle.sheet.specs.Rows.{uses, is_unknown}
use Rattle.sheet.specs.Values.{unknowns, in_bits, each_in_bits}
use Rattle.sheet.specs.Acceptance.{Outcome, refused}
use Rattle.sheet.specs.Calls.{false_at, refuse◌at◌if◌, refuse◌counting◌unless◌}

abbrev pub asks : Fields → Bool
asks f = is_unknown (uses f.kind)

pub asked : (rows : List Fields) → filter asks rows ≡ unknowns rows
asked [] = refl
asked (f ∷ rows) = elim (asks f) as (λ b. cond b (f ∷ filter asks rows) (filter asks rows) ≡ (if b then f ∷ unknowns rows otherwise unknowns rows)) [ true ↦ ap (λ fs. f ∷ fs) (asked rows) | false ↦ asked rows ]

abbrev pub outside_bits : Fields × ℤ → Bool
outside_bits p = not (in_bits (uses p.0.kind) p.0.p p.1)

tested : (fs : List Fields) (vs : List ℤ) → position_or_len outside_bits (zip fs vs) ≡ position_or_len not (each_in_bits fs vs)
tested [] vs = refl
tested (f ∷ fs) [] = refl
tested (f ∷ fs) (v ∷ vs) = ap (λ n. cond (not (not (in_bits (uses f.kind) f.p v))) (1 + n) 0) (tested fs vs)

as_many : (fs : List Fields) (vs : List ℤ) → length (zip fs vs) ≡ length (each_in_bits fs vs)
as_many [] vs = refl
as_many (f ∷ fs) [] = refl
as_many (f ∷ fs) (v ∷ vs) = ap (λ n. suc n) (as_many fs vs)

pub first_outside : (rows : List Fields) (vs : List ℤ) → position outside_bits (zip (filter asks rows) vs) ≡ position not (each_in_bits (unknowns rows) vs)
first_outside rows vs = rw (asked, tested, as_many)

-- what is known of each row is known of each value's
pub known_of_each : (P : Fields → Type 0) (rows : List Fields) (vs : List ℤ) → All P rows → (k : ℕ) (p : Fields × ℤ) → k < length (zip (filter asks rows) vs) → p ≡ get_or (zip (filter asks rows) vs) k p → P p.0
known_of_each P rows vs h k p i e =
    let n = length-zip (filter asks rows) vs in
    let q = get_or-zip (filter asks rows) vs k p (omega arith) (omega arith) in
    rw e (rw q (All-filter asks P rows h k p.0 (omega arith)))

-- refused exactly if there is a first one outside, and it is the place
false_at_lem : (n : ℕ) (bs : List Bool) → false_at n bs ≡ n + position_or_len not bs
false_at_lem n [] = omega arith
false_at_lem n (true ∷ bs) = omega (arith, false_at_lem (n + 1) bs)
false_at_lem n (false ∷ bs) = omega arith

abbrev pub refused_at : Reason → Option ℕ → Outcome (Unit {0})
refused_at reason None = Ok tt
refused_at reason (Some i) = refused reason i

pub counting_refuses : (reason : Reason) (bs : List Bool) → (refuse reason counting 0 unless bs) ≡ refused_at reason (position not bs)
counting_refuses reason bs =
    let first : false_at 0 bs ≡ position_or_len not bs = false_at_lem 0 bs ∙ zero-add _ in
    rw (first, zero-add (length bs)) (elim (ltb (position_or_len not bs) (length bs)) as (λ b. (refuse reason at position_or_len not bs if b) ≡ refused_at reason (cond b (Some (position_or_len not bs)) None)) [ true ↦ refl | false ↦ refl ])
