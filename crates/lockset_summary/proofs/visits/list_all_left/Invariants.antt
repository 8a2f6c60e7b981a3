use Rattle.std.proofs.Common.{◌<◌, ℕ, length}
use Rattle.lockset_summary.specs.Visits.{IsListed, IsSearch}
use Rattle.lockset_summary.proofs.visits.list_all_left.Given as goal

abbrev pub invariant-loop-f : goal.invariant-loop-f
invariant-loop-f l = record {
  search : IsSearch (length l.code.functions) l.search;
  listed : (g : ℕ) → g < l.f → IsListed l.search g;
}
