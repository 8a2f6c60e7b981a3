use Rattle.std.proofs.Common.{◌≡◌, ◌+◌, ◌++◌, drop}
use Rattle.facts.specs.PointsTo as spec
use Rattle.points_to.proofs.globals.push_sites.Given as goal

-- what is pushed and the rest make the whole
abbrev pub invariant-loop-k : goal.invariant-loop-k
invariant-loop-k l = l.out ++ spec.sites_constraints l.code (l.k + 1) (drop l.k l.code.sites) ≡ l.fn.out ++ spec.sites_constraints l.code 1 l.code.sites
