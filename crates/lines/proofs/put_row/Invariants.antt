-- `lines::put_row` meets its contract. Assumes nothing.
use mathlib.Core.Path.{◌≡◌}
use mathlib.Core.List.{◌++◌}
use Prim.Native.Nat.{◌*◌, ◌-◌}
use lib.ListN.{take, drop}
use Rattle.sheet.specs.Texts.{bytes_in}
use Rattle.lines.proofs.put_row.Given as goal

-- the bytes that are left follow those written
abbrev pub invariant-loop-i : goal.invariant-loop-i
invariant-loop-i l = take l.i l.row ++ bytes_in (8 - l.i) (drop (2 * l.i) l.text) ≡ bytes_in 8 l.text
