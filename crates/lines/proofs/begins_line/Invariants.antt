-- `lines::begins_line` meets its contract. Assumes nothing.
use mathlib.Core.Path.{◌≡◌}
use mathlib.Core.Bool.{◌&&◌}
use Prim.Native.Nat.{◌-◌}
use lib.ListN.{drop}
use Rattle.sheet.specs.Texts.{begins_line}
use Rattle.lines.proofs.begins_line.Given as goal

-- whether all bytes so far are digits and what is left of the line decide
abbrev pub invariant-loop-byte : goal.invariant-loop-byte
invariant-loop-byte l = (l.good && begins_line (16 - l.byte-index) (drop l.byte-index l.text)) ≡ begins_line 16 l.text
