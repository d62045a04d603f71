-- `judge::operands::some_not_earlier` meets its contract. Assumes nothing.
use Rattle.std.proofs.Common.{◌≡◌, refl, ap, ◌∙◌, ℕ, Bool, ◌||◌, List, [], ◌∷◌, leb, rules, tests}
use Rattle.std.specs.List.{zip, list_any}
use Rattle.std.proofs.lemmas.Iterator.{YieldsList-from_slice, YieldsList-from_zip}
use Rattle.std.proofs.lemmas.Iterator.Search.{any_from_yields_List}
use Rattle.sheet.specs.Acceptance.{some_not_earlier}
use Rattle.judge.proofs.operands.some_not_earlier.Goals as goal

abbrev late : ℕ → ℕ × ℕ → Bool
late rows p = leb rows p.1

paired : (rows : ℕ) (sorts names : List ℕ) → list_any (late rows) (zip sorts names) ≡ some_not_earlier rows sorts names
paired rows [] names = refl
paired rows (s ∷ sorts) [] = refl
paired rows (s ∷ sorts) (x ∷ names) = ap (λ (b : Bool). leb rows x || b) (paired rows sorts names)

pub returns : goal.returns
returns c =
    let rows = c.args.rows in
    let sorts = c.args.sorts.now in
    let names = c.args.names.now in
    any_from_yields_List (late rows) c.any.new.self _ _ c.any.ensures.ran (YieldsList-from_zip (YieldsList-from_slice sorts cc) (YieldsList-from_slice names cc)) (λ x b q k. search (rules, tests))
    ∙ paired rows sorts names
