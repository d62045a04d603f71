-- `row::all_zero` meets its contract. Assumes nothing.
use Rattle.std.proofs.Common.{refl, ◌∙◌, eqb, ◌&&◌, rules, tests}
use Rattle.std.specs.List.{list_all}
use Rattle.std.proofs.lemmas.Iterator.{YieldsList-from_slice}
use Rattle.std.proofs.lemmas.Iterator.Search.{all_from_yields_List}
use Rattle.std.proofs.lemmas.List.Recursion.{same_from_clauses}
use Rattle.sheet.specs.Rows.{all_zero}
use Rattle.row.proofs.all_zero.Goals as goal

pub returns : goal.returns
returns c =
    let fields = c.args.fields.now in
    all_from_yields_List (λ n. eqb n 0) _ _ _ c.all.ensures.ran (YieldsList-from_slice fields cc) (λ x b q k. search (rules, tests))
    ∙ same_from_clauses (list_all (λ n. eqb n 0)) all_zero (λ n b. eqb n 0 && b) refl (λ _ _. refl) (λ _ _. refl) fields
