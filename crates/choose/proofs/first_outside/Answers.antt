-- `choose::first_outside` meets its contract. Assumes nothing.
use Rattle.std.proofs.Common.{◌∙◌, rules, tests}
use Rattle.std.proofs.lemmas.Iterator.{YieldsList-from_slice, YieldsList-from_zip}
use Rattle.std.proofs.lemmas.Iterator.Adapters.{serves_from_places}
use Rattle.std.proofs.lemmas.Iterator.Consumers.{YieldsList-at, YieldsList-from_filter}
use Rattle.std.proofs.lemmas.Iterator.Search.{position_from_yields_List}
use Rattle.sheet.specs.Rows.{uses}
use Rattle.declared.specs.Declared.{Declared}
use Rattle.choose.proofs.Testing.{asks, outside_bits, first_outside, known_of_each}
use Rattle.choose.proofs.first_outside.Goals as goal

pub position-requires-clause-callable : goal.position-requires-clause-callable
position-requires-clause-callable c =
    serves_from_places
    (YieldsList-from_zip (YieldsList-at c.zip.ensures.first (YieldsList-from_filter _ asks (YieldsList-from_slice c.args.rows.now cc) c.filter.ensures.closure (λ x b q k. search (rules, tests))))
    (YieldsList-from_slice c.args.values.now cc))
    (λ x q k. search (rules, tests))
    (λ x k h e. let d = known_of_each (λ f. Declared (uses f.kind) f.p) c.args.rows.now c.args.values.now c.requires k _ h e in search (rules, tests))

pub returns : goal.returns
returns c =
    position_from_yields_List outside_bits c.position.new.self _ _ c.position.ensures.ran
    (YieldsList-from_zip (YieldsList-at c.zip.ensures.first (YieldsList-from_filter _ asks (YieldsList-from_slice c.args.rows.now cc) c.filter.ensures.closure (λ x b q k. search (rules, tests))))
    (YieldsList-from_slice c.args.values.now cc))
    (λ x b q k. search (rules, tests))
    ∙ first_outside c.args.rows.now c.args.values.now
