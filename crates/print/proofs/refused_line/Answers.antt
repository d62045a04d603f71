-- `print::refused_line` meets its contract. Assumes nothing.
use Prim.Native.Nat.{ℕ}
use native.Mathlib.Omega.{arith}
use lib.ListN.{length-take}
use Rattle.sheet.specs.Texts.{ascii}
use Rattle.print.proofs.Pieces.{length_pair, refused_pair}
use Rattle.print.proofs.Puts.{put_whole}
use Rattle.print.proofs.refused_line.Goals as goal

pub slice_bounds-line-end : goal.slice_bounds-line-end
slice_bounds-line-end c =
    omega (arith, c.put_pair_line-end.ensures.place, length_pair (ascii "refused ") c.from.result c.args.place)

pub slice_bounds-line_page-end : goal.slice_bounds-line_page-end
slice_bounds-line_page-end c =
    let short = length_pair (ascii "refused ") c.from.result c.args.place in
    omega (arith, c.put_pair_line-end.ensures.place, short, length-take {A = ℕ})

pub returns : goal.returns
returns c =
    let number = c.from.ensures in
    let line = rw (number, refused_pair) at (put_whole c.put_pair_line-end.ensures) in
    rw line at c.line_page.ensures
