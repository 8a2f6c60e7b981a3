use Rattle.std.proofs.Common.{◌≡◌, ◌++◌, drop}
use Rattle.lockset_summary.specs.Known as known
use Rattle.lockset_summary.proofs.universe.in_both_ways.Given as goal

-- what is pushed and what the rest gives make the whole
abbrev pub invariant-loop-path : goal.invariant-loop-path
invariant-loop-path l = l.locks ++ known.in_both_ways (drop l.path-index l.paths) ≡ known.in_both_ways l.paths
