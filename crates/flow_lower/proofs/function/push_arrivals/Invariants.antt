use Rattle.std.proofs.Common.{◌≡◌, ◌++◌, drop, map}
use Rattle.core_tree.specs.View.{arrival_of}
use Rattle.flow_lower.specs.Lowered.{arrivals_code}
use Rattle.flow_lower.proofs.function.push_arrivals.Given as goal

-- what is pushed and the rest make the whole
abbrev pub invariant-loop-arrival : goal.invariant-loop-arrival
invariant-loop-arrival l = l.out ++ arrivals_code l.first (map arrival_of (drop l.arrival-index l.arrivals)) ≡ l.fn.out ++ arrivals_code l.fn.first (map arrival_of l.fn.arrivals)
