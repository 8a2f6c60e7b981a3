use Rattle.std.proofs.Common.{◌≤◌, ◌-◌, drop, length}
use Rattle.seen_pairs.proofs.Walks.{Along}
use Rattle.seen_pairs.proofs.along.noted_along.Given as goal

abbrev pub invariant-loop-at : goal.invariant-loop-at
invariant-loop-at l = record {
  along : Along l.code l.setup l.entries (drop l.at l.entries) l.flows.items l.words.items l.reads.items l.out l.stacks l.pairs.keys;
  few : l.at ≤ length l.entries;
}

abbrev pub decreases-loop-at : goal.decreases-loop-at
decreases-loop-at l = length l.entries - l.at
