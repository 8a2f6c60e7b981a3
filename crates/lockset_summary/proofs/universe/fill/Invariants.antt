use Rattle.std.proofs.Common.{◌+◌, ◌≡◌, false, if◌then◌else◌}
use Rattle.facts.specs.declared.locks.LockPath.{LockPath}
use Rattle.lockset_summary.specs.Rounds.{room}
use Rattle.lockset_summary.specs.Known.{AreKnown, AreAllTold}
use Rattle.lockset_summary.proofs.universe.fill.Given as goal

abbrev pub invariant-loop-more : goal.invariant-loop-more
invariant-loop-more l = record {
  known : AreKnown l.code l.rows.items;
  told : l.more ≡ false → AreAllTold l.code l.rows.items;
}

abbrev pub decreases-loop-more : goal.decreases-loop-more
decreases-loop-more l = room LockPath l.rows.items + (if l.more then 1 else 0)
