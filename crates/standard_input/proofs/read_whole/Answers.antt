-- `standard_input::read_whole` meets its contract. Assumes nothing.
use mathlib.Core.Path.{refl, subst, ◌∙◌}
use mathlib.Core.List.{[]}
use native.Mathlib.Omega.{arith}
use Rattle.standard_input.specs.Reads.{after, Reached}
use Rattle.standard_input.proofs.Laws.{reached_more, Nearer, nearer}
use Rattle.std.proofs.KnownBytes.{Consumes-nil}
use Rattle.standard_input.proofs.read_whole.Goals as goal

pub loop-there-init : goal.loop-there-init
unfolding after
loop-there-init g c = record { long = refl; within = omega arith; reached = record { reads = []; come = refl }; held = Consumes-nil _ }

pub loop-there-smaller : goal.loop-there-smaller
loop-there-smaller g c =
    let i = c.loop-there.invariant in
    let n = subst (Nearer _ _ _) c.in-Going.is (nearer (omega (arith, i.within, i.long)) c.read_on-progress.ensures.more) in
    omega (arith, n, i.long)

pub loop-there-preserved : goal.loop-there-preserved
loop-there-preserved g c =
    let s = c.read_on-progress.ensures in
    let i = c.loop-there.invariant in
    let e = c.in-Going.is in
    let n = subst (Nearer _ _ _) e (nearer (omega (arith, i.within, i.long)) s.more) in
    record {
      long = s.size ∙ i.long;
      within = omega (arith, n, i.long);
      reached = subst (Reached _) e (reached_more i.reached (rw i.long at s.more));
      held = rw e at (s.held _ i.held);
    }

pub returns-in-Whole : goal.returns-in-Whole
returns-in-Whole g c =
    let s = c.read_on-progress.ensures in
    let i = c.loop-there.invariant in
    let e = c.in-Whole.is in
    let n = subst (Nearer _ _ _) e (nearer (omega (arith, i.within, i.long)) s.more) in
    record {
      reached = subst (Reached _) e (reached_more i.reached (rw i.long at s.more));
      over = omega (arith, n, s.size);
      held = rw e at (s.held _ i.held);
    }

pub returns-in-Failed : goal.returns-in-Failed
returns-in-Failed g c =
    let i = c.loop-there.invariant in
    record { reached = subst (Reached _) c.in-Failed.is (reached_more i.reached (rw i.long at c.read_on-progress.ensures.more)); over = tt; held = tt }
