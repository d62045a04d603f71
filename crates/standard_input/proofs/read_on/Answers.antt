-- `standard_input::read_on` meets its contract. Assumes nothing.
use mathlib.Core.Path.{◌≡◌, sym}
use Rattle.std.proofs.Common.{rules, length, ◌-◌}
use Rattle.standard_input.specs.Reads.{told}
use Rattle.standard_input.proofs.Laws.{moved_by, moved_told}
use Rattle.standard_input.proofs.Held.{held_on}
use Rattle.standard_input.proofs.read_on.Goals as goal

pub returns-clause-more : goal.returns-clause-more
returns-clause-more g c =
    let a = c.read-answer in
    let long : length a.new.buf ≡ length c.args.buf.now - c.args.at = search rules in
    record { read = told a.result; come = sym c.after_read.ensures; moved = moved_told _ a.result (moved_by _ a.result a.new.buf long a.ensures.bound) }

pub returns-clause-held : goal.returns-clause-held
returns-clause-held g c known before =
    let a = c.read-answer in
    let long : length a.new.buf ≡ length c.args.buf.now - c.args.at = search rules in
    rw c.after_read.ensures (held_on c.args.at c.args.patience a.result known _ _ c.args.buf.now a.new.buf c.requires long a.ensures.bound a.ensures.bytes before)
