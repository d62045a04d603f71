-- `judge::operands::some_of_wrong_sort` meets its contract. Assumes nothing.
use Rattle.std.proofs.Common.{◌≡◌, refl, ap, ◌∙◌, ℕ, Bool, not, ◌||◌, List, [], ◌∷◌, eqb, rules, tests}
use Rattle.std.specs.List.{zip, list_any}
use Rattle.std.proofs.lemmas.Iterator.{YieldsList-from_slice, YieldsList-from_zip}
use Rattle.std.proofs.lemmas.Iterator.Search.{any_from_yields_List}
use Rattle.sheet.specs.declared.Record.{Record}
use Rattle.sheet.specs.Acceptance.{some_of_wrong_sort}
use Rattle.judge.proofs.operands.some_of_wrong_sort.Goals as goal

abbrev wrong : ℕ × Record → Bool
wrong p = not (eqb p.1.sort p.0)

paired : (sorts : List ℕ) (records : List Record) → list_any wrong (zip sorts records) ≡ some_of_wrong_sort sorts records
paired [] records = refl
paired (s ∷ sorts) [] = refl
paired (s ∷ sorts) (r ∷ records) = ap (λ (b : Bool). not (eqb r.sort s) || b) (paired sorts records)

pub returns : goal.returns
returns c =
    let sorts = c.args.sorts.now in
    let records = c.args.records.now in
    any_from_yields_List wrong c.any.new.self _ _ c.any.ensures.ran (YieldsList-from_zip (YieldsList-from_slice sorts cc) (YieldsList-from_slice records cc)) (λ x b q k. search (rules, tests))
    ∙ paired sorts records
