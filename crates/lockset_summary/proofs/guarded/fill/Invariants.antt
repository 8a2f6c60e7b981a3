use Rattle.std.proofs.Common.{◌+◌, ◌≡◌, false, if◌then◌else◌}
use Rattle.facts.specs.declared.locks.Guarded.{Guarded}
use Rattle.lockset_summary.specs.Rounds.{room}
use Rattle.lockset_summary.specs.Guarding.{AreMade, AreAllMet}
use Rattle.lockset_summary.proofs.guarded.fill.Given as goal

abbrev pub invariant-loop-more : goal.invariant-loop-more
invariant-loop-more l = record {
  sound : AreMade l.code l.points l.rows.items;
  met : l.more ≡ false → AreAllMet l.code l.points l.rows.items;
}

abbrev pub decreases-loop-more : goal.decreases-loop-more
decreases-loop-more l = room Guarded l.rows.items + (if l.more then 1 else 0)
