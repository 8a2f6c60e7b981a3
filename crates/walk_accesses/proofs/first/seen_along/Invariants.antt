use Rattle.std.proofs.Common.{◌≤◌, ◌-◌, drop, length}
use Rattle.walk_accesses.proofs.Firsts.{Along}
use Rattle.walk_accesses.proofs.first.seen_along.Given as goal

abbrev pub invariant-loop-part : goal.invariant-loop-part
invariant-loop-part l = record {
  along : Along l.code l.setup l.entries l.formula l.part (drop l.part l.entries) l.flows.items l.words.items l.reads.items l.out;
  few : l.part ≤ length l.entries;
}

abbrev pub decreases-loop-part : goal.decreases-loop-part
decreases-loop-part l = length l.entries - l.part
