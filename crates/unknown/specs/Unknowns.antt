-- Whether a row is read as an unknown. Assumes nothing.
use Rattle.std.specs.Prelude.{Ok, Err, Bool, false}
use Rattle.sheet.specs.Rows.{Reading, uses, is_unknown}

abbrev pub reads_unknown : Reading → Bool
reads_unknown (Ok f) = is_unknown (uses f.kind)
reads_unknown (Err reason) = false
