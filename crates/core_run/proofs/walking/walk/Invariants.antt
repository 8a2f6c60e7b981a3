use Rattle.std.proofs.Common.{◌≤◌, ◌-◌, drop, length}
use Rattle.core_run.proofs.WalkLoop.{Walked}
use Rattle.core_run.proofs.walking.walk.Given as goal

abbrev pub invariant-loop-at : goal.invariant-loop-at
invariant-loop-at l = record {
  walked : Walked l.code l.setup l.entries l.formula l.at (drop l.at l.entries) l.flows.items l.words.items l.reads.items l.out;
  few : l.at ≤ length l.entries;
}

abbrev pub decreases-loop-at : goal.decreases-loop-at
decreases-loop-at l = length l.entries - l.at
