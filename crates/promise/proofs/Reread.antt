-- Settings in print tell the values: no two choices print the same. Assumes nothing.
use mathlib.Core.Path.{◌≡◌, refl, sym, ◌∙◌, ap, ap₂}
use mathlib.Core.Bool.{Bool, true, false}
use mathlib.Core.List.{List, [], ◌∷◌, ◌++◌, append_assoc}
use mathlib.Core.Option.{some-injective}
use Prim.Native.Nat.{ℕ, ◌+◌, ◌-◌, ◌^◌, ◌≤◌, ◌<◌}
use native.Mathlib.Omega.{arith}
use lib.Pow.{pow_mono}
use lib.IntN.{ℤ, pos, negsuc, nat_abs}
use lib.Signed.{mag}
use Rattle.whole.specs.Tests.{if◌then◌otherwise◌}
use Rattle.whole.proofs.Bits.{fits_iff}
use Rattle.circuit.specs.Counting.{the_first}
use Rattle.sheet.specs.declared.Fields.{Fields}
use Rattle.sheet.specs.declared.Record.{Record}
use Rattle.sheet.specs.Rows.{uses, is_unknown}
use Rattle.sheet.specs.Values.{Value, boolean, fraction, numerator, denominator, row_values, Chosen}
use Rattle.sheet.specs.Steps.{of_unknowns}
use Rattle.sheet.specs.Texts.{ascii, decimal, signed, setting_lines, value_line}
use Rattle.sheet.specs.Dimacs.{integer}
use Rattle.sheet.proofs.Numerals.{Above, decimal_above, signed_above, integer_back}
use Rattle.sheet.proofs.Widths.{Holds, AllHold}
use Rattle.sheet.proofs.Pages.{NarrowRecords}
use Rattle.promise.specs.Printed.{PrintedTellsTheValues}
use Rattle.promise.proofs.Counts.{passed_narrow}
use Rattle.promise.proofs.Choices.{within_all, values_new, chosen_found}
use Rattle.promise.proofs.Fitting.{table_fits}
use Rattle.promise.proofs.Promise.{Known, known}

-- two texts that are the same are the same up to a mark and behind it
same_first : {a b : ℕ} {xs ys : List ℕ} → a ∷ xs ≡ b ∷ ys → (a ≡ b) × (xs ≡ ys)
same_first e = (cc, cc)

same_parts : (m : ℕ) → m ≤ 32 → (cs bs xs ys : List ℕ) → Above 32 cs → Above 32 bs → cs ++ m ∷ xs ≡ bs ++ m ∷ ys → (cs ≡ bs) × (xs ≡ ys)
same_parts m l [] [] xs ys h k e = (refl, (same_first e).1)
same_parts m l [] (b ∷ bs) xs ys h k e = absurd (omega (arith, k.0, (same_first e).0))
same_parts m l (a ∷ cs) [] xs ys h k e = absurd (omega (arith, h.0, (same_first e).0))
same_parts m l (a ∷ cs) (b ∷ bs) xs ys h k e =
    let (same, rest) = same_parts m l cs bs xs ys h.1 k.1 (same_first e).1 in
    (ap₂ ◌∷◌ (same_first e).0 same, rest)

-- row i's line, and the text behind it
line_then : (i : ℕ) (v : Value) (rest : List ℕ) → value_line i v ++ rest ≡ decimal i ++ 32 ∷ (signed (numerator v) ++ 32 ∷ (decimal (denominator v) ++ 10 ∷ rest))
line_then i v rest = by (decimal i) (signed (numerator v)) (decimal (denominator v))
  where
    by : (a b c : List ℕ) → a ++ ascii " " ++ b ++ ascii " " ++ c ++ ascii "\n" ++ rest ≡ a ++ 32 ∷ (b ++ 32 ∷ (c ++ 10 ∷ rest))
    by a b c =
        append_assoc (a ++ ascii " " ++ b ++ ascii " " ++ c) (ascii "\n") rest ∙ append_assoc (a ++ ascii " " ++ b ++ ascii " ") c (10 ∷ rest)
        ∙ append_assoc (a ++ ascii " " ++ b) (ascii " ") (c ++ 10 ∷ rest) ∙ append_assoc (a ++ ascii " ") b (32 ∷ (c ++ 10 ∷ rest)) ∙ append_assoc a (ascii " ") (b ++ 32 ∷ (c ++ 10 ∷ rest))

same_line : (i : ℕ) (v w : Value) (xs ys : List ℕ) → value_line i v ++ xs ≡ value_line i w ++ ys → (signed (numerator v) ≡ signed (numerator w)) × (xs ≡ ys)
same_line i v w xs ys e =
    let (_, rest) = same_parts 32 (omega arith) (decimal i) (decimal i) _ _ (decimal_above 32 i (omega arith)) (decimal_above 32 i (omega arith)) (sym (line_then i v xs) ∙ e ∙ line_then i w ys) in
    let (same, rest₁) = same_parts 32 (omega arith) (signed (numerator v)) (signed (numerator w)) _ _ (signed_above (numerator v)) (signed_above (numerator w)) rest in
    (same, (same_parts 10 (omega arith) (decimal (denominator v)) (decimal (denominator w)) xs ys (decimal_above 32 (denominator v) (omega arith)) (decimal_above 32 (denominator w) (omega arith)) rest₁).1)

-- a number of at most 48 bits has at most 20 digits
few_digits : (r : Record) (v : Value) → Holds r v → r.width ≤ 48 → nat_abs (numerator v) < 10 ^ 20
few_digits r (boolean true) h k = omega arith
few_digits r (boolean false) h k = omega arith
few_digits r (fraction n d) h k = short n (fits_iff.0 h.fits)
  where
    short : (z : ℤ) → mag z < 2 ^ (r.width - 1) → nat_abs z < 10 ^ 20
    short (pos n) q = let p = pow_mono {i = r.width - 1} {j = 47} (omega arith) in omega arith
    short (negsuc n) q = let p = pow_mono {i = r.width - 1} {j = 47} (omega arith) in omega arith

same_number : (v w : Value) → nat_abs (numerator v) < 10 ^ 20 → nat_abs (numerator w) < 10 ^ 20 → signed (numerator v) ≡ signed (numerator w) → numerator v ≡ numerator w
same_number v w h k e = some-injective _ _ (sym (integer_back (numerator v) h) ∙ ap integer e ∙ integer_back (numerator w) k)

same_lines : (rs : List Record) → NarrowRecords rs → (i : ℕ) (rows : List Fields) (vs ws : List Value) → AllHold rs vs → AllHold rs ws
    → setting_lines i rows vs ≡ setting_lines i rows ws → of_unknowns rows vs ≡ of_unknowns rows ws
unfolding setting_lines
same_lines [] n i [] [] [] h k e = refl
same_lines [] n i (f ∷ rows) [] [] h k e = refl
same_lines (r ∷ rs) n i [] (v ∷ vs) (w ∷ ws) h k e = refl
same_lines (r ∷ rs) n i (f ∷ rows) (v ∷ vs) (w ∷ ws) h k e = by (is_unknown (uses f.kind)) (same_lines rs n.1 (i + 1) rows vs ws h.1 k.1) e
  where
    by : (b : Bool) → (setting_lines (i + 1) rows vs ≡ setting_lines (i + 1) rows ws → of_unknowns rows vs ≡ of_unknowns rows ws)
        → (if b then value_line i v otherwise []) ++ setting_lines (i + 1) rows vs ≡ (if b then value_line i w otherwise []) ++ setting_lines (i + 1) rows ws
        → (if b then numerator v ∷ of_unknowns rows vs otherwise of_unknowns rows vs) ≡ (if b then numerator w ∷ of_unknowns rows ws otherwise of_unknowns rows ws)
    by true rest q =
        let (same, behind) = same_line i v w (setting_lines (i + 1) rows vs) (setting_lines (i + 1) rows ws) q in
        ap₂ ◌∷◌ (same_number v w (few_digits r v h.0 n.0) (few_digits r w k.0 n.0) same) (rest behind)
    by false rest q = rest q
same_lines [] n i rows (v ∷ vs) ws h k e = absurd h
same_lines [] n i rows [] (w ∷ ws) h k e = absurd k
same_lines (r ∷ rs) n i rows [] ws h k e = absurd h
same_lines (r ∷ rs) n i rows (v ∷ vs) [] h k e = absurd k

-- ---- the values

pub printed_tells_the_values : PrintedTellsTheValues
unfolding row_values
printed_tells_the_values table sheet e vs ws h k same =
    let rows = sheet.rows in
    let narrow = passed_narrow rows [] the_first sheet.records is.total is.passed tt in
    sym (found vs h) ∙ same_lines sheet.records narrow 0 rows (row_values rows vs) (row_values rows ws) (holds vs h) (holds ws k) same ∙ found ws k
  where
    is : Known sheet
    is = known table sheet e

    found : (values : List ℤ) → Chosen sheet.rows values → of_unknowns sheet.rows (row_values sheet.rows values) ≡ values
    found values c = ap (of_unknowns sheet.rows) (values_new sheet.rows [] values) ∙ chosen_found sheet.rows [] values c.within.number (within_all sheet.rows values c.within)

    holds : (values : List ℤ) → Chosen sheet.rows values → AllHold sheet.records (row_values sheet.rows values)
    holds values c = table_fits sheet.rows [] [] tt the_first sheet.records is.total is.passed values (within_all sheet.rows values c.within)
