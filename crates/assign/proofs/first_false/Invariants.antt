-- `assign::first_false` meets its contract. Assumes nothing.
use Rattle.std.proofs.Common.{◌≡◌, ◌+◌, ◌≤◌}
use Rattle.assign.specs.Clauses.{clauses_in, truths, first_false_from}
use Rattle.assign.proofs.Scanning.{scan}
use Rattle.assign.proofs.first_false.Given as goal

-- what is left, from where the scan stands, answers for the whole
abbrev pub invariant-loop-x : goal.invariant-loop-x
invariant-loop-x l = record {
  few : l.number ≤ l.x-index + 1;
  left : scan l.slots l.model l.x-index l.number l.met ≡ first_false_from 1 (truths l.model (clauses_in l.slots));
}
