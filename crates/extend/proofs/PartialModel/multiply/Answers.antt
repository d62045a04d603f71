-- `extend::PartialModel::multiply` meets its contract. Assumes nothing.
use mathlib.Core.Path.{◌∙◌, ap₂}
use mir.Facts.{to_z-of_z}
use Rattle.extend.proofs.Words.{kept}
use Rattle.trace.specs.Traces.{row_of}
use Rattle.extend.proofs.Rows.{multiplied}
use Rattle.extend.proofs.PartialModel.multiply.Goals as goal

pub returns : goal.returns
returns c =
    let r = kept c.masked-first.result c.masked-first.type_inv ∙ c.masked-first.ensures ∙ ap₂ row_of (to_z-of_z c.ranges.x) (to_z-of_z c.ranges.y) in
    let h = kept c.half.result c.half.type_inv ∙ rw (to_z-of_z c.ranges.y) at c.half.ensures in
    multiplied c.args.w c.args.x c.args.y c.requires.w_least c.requires.room r h c.put_bits.ensures (rw (to_z-of_z c.ranges.x) at c.add_rows.ensures)
