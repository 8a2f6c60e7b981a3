use Rattle.std.proofs.Common.{◌≡◌, ◌++◌, drop}
use Rattle.flow_lower.specs.Lowered.{objects_code}
use Rattle.flow_lower.proofs.function.push_objects.Given as goal

-- what is pushed and the rest make the whole
abbrev pub invariant-loop-site : goal.invariant-loop-site
invariant-loop-site l = l.out ++ objects_code l.at l.into (drop l.site-index l.sites) ≡ l.fn.out ++ objects_code l.fn.at l.fn.first l.fn.sites
