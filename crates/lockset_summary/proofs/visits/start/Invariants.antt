use Rattle.std.proofs.Common.{◌≡◌, length}
use Rattle.lockset_summary.proofs.Visiting.{AreUnseen}
use Rattle.lockset_summary.proofs.visits.start.Given as goal

abbrev pub invariant-loop-f : goal.invariant-loop-f
invariant-loop-f l = (length l.marks ≡ l._f) × AreUnseen l.marks
