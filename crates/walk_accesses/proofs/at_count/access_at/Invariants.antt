use Rattle.std.proofs.Common.{◌≤◌, ◌-◌, drop, length}
use Rattle.walk_accesses.proofs.Counts.{NotYet}
use Rattle.walk_accesses.proofs.at_count.access_at.Given as goal

abbrev pub invariant-loop-at : goal.invariant-loop-at
invariant-loop-at l = record {
  not_yet : NotYet l.code l.setup l.entries l.thread l.count l.formula l.at (drop l.at l.entries) l.flows.items l.words.items l.reads.items l.out;
  few : l.at ≤ length l.entries;
}

abbrev pub decreases-loop-at : goal.decreases-loop-at
decreases-loop-at l = length l.entries - l.at
