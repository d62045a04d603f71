-- `lines::judge` meets its contract. Assumes nothing.
use mathlib.Core.Path.{◌≡◌}
use Prim.Native.Nat.{◌+◌, ◌*◌, ◌-◌, ◌≤◌}
use lib.ListN.{length}
use Rattle.sheet.specs.Texts.{lines_from}
use Rattle.lines.proofs.judge.Given as goal

-- the lines that are left decide
abbrev pub invariant-loop-first : goal.invariant-loop-first
invariant-loop-first l = record {
  few : l.rows ≤ 256;
  place : 17 * l.rows + length l.rest ≡ length l.text;
  left : lines_from (256 - l.rows) l.blank l.rows l.rest ≡ lines_from 256 l.blank 0 l.text;
}

abbrev pub decreases-loop-first : goal.decreases-loop-first
decreases-loop-first l = length l.rest
