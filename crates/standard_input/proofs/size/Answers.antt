-- `standard_input::size` meets its contract. Assumes nothing.
use mathlib.Core.Path.{ap, ◌∙◌}
use Rattle.standard_input.specs.Reads.{bytes}
use Rattle.standard_input.proofs.Laws.{whole_within, whole_long}
use Rattle.standard_input.proofs.size.Goals as goal

pub returns-in-Whole : goal.returns-in-Whole
returns-in-Whole c =
    let e = c.in-Whole.is in
    let s = c in record { within = (whole_within s.requires e, whole_long s.args.buf.now s.requires e); size = ap bytes e ∙ whole_long s.args.buf.now s.requires e }
