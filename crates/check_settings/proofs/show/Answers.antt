-- `check_settings::show` is safe and ends. Assumes nothing.
use mathlib.Core.List.{List}
use Prim.Native.Nat.{ℕ}
use borrow.Author.Rules.{rules}
use lib.ListN.{replicate}
use Rattle.program.proofs.Printed.{printed_within, printed_long}
use Rattle.check_settings.proofs.show.Goals as goal

-- the output's buffer as it is lent
abbrev blank : List ℕ
blank = replicate 16448 0

pub slice_bounds-out-end : goal.slice_bounds-out-end
slice_bounds-out-end g c = let s = c.settings_text-size.ensures in printed_within _ blank s.answer s.out

pub slice_bounds-write_all-end-2 : goal.slice_bounds-write_all-end-2
slice_bounds-write_all-end-2 g c = let s = c.settings_text-size.ensures in printed_long _ blank s.answer s.out
