use Rattle.std.proofs.Common.{◌≡◌, ◌-◌, ◌≤◌, drop, length, take}
use Rattle.checkpoint.specs.Going.{standing}
use Rattle.checkpoint.proofs.Gone.{Gone}
use Rattle.checkpoint.proofs.going.go_on.Given as goal

abbrev pub invariant-loop-at : goal.invariant-loop-at
invariant-loop-at l = record {
  gone : Gone l.code l.setup (standing l.fn.flows.items l.fn.words.items) (drop l.first (take l.last l.entries)) l.first l.at (drop l.at (take l.last l.entries)) l.flows.items l.words.items l.reads.items l.out;
  len : length l.flows.items ≡ l.setup.slots;
  from : l.first ≤ l.at;
  to : l.at ≤ l.last;
}

abbrev pub decreases-loop-at : goal.decreases-loop-at
decreases-loop-at l = l.last - l.at
