use Rattle.std.proofs.Common.{◌≡◌, drop}
use Rattle.facts.specs.Summaries.{exits_of}
use Rattle.lockset_summary.specs.Exits.{all_same}
use Rattle.lockset_summary.proofs.exits.are_exits.Given as goal

abbrev pub invariant-loop-k : goal.invariant-loop-k
invariant-loop-k l = all_same l.exits (exits_of l.points) ≡ all_same (drop l.k l.exits) (drop l.k (exits_of l.points))
