-- `assign::first_not_bit` meets its contract. Assumes nothing.
use Rattle.std.proofs.Common.{◌∙◌, rules, tests}
use Rattle.std.proofs.lemmas.Iterator.{YieldsList-from_slice}
use Rattle.std.proofs.lemmas.Iterator.Search.{position_from_yields_List}
use lib.Dec.{ltb}
use Rattle.assign.proofs.Scanning.{first_not_bit}
use Rattle.assign.proofs.first_not_bit.Goals as goal

pub returns : goal.returns
returns c =
    position_from_yields_List (λ b. ltb 1 b) _ _ _ c.position.ensures.ran (YieldsList-from_slice c.args.model.now cc) (λ x b q k. search (rules, tests))
    ∙ first_not_bit c.args.model.now
