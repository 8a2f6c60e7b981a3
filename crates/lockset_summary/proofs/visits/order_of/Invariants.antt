use Rattle.std.proofs.Common.{length}
use Rattle.lockset_summary.specs.Visits.{IsSearch}
use Rattle.lockset_summary.proofs.visits.order_of.Given as goal

abbrev pub invariant-loop-f : goal.invariant-loop-f
invariant-loop-f l = IsSearch (length l.code.functions) l.search
