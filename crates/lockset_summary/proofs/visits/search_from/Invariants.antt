use Rattle.std.proofs.Common.{length}
use Rattle.lockset_summary.specs.Visits.{IsSearch}
use Rattle.lockset_summary.proofs.visits.search_from.Given as goal

abbrev pub invariant-loop-step : goal.invariant-loop-step
invariant-loop-step l = IsSearch (length l.code.functions) l.search
