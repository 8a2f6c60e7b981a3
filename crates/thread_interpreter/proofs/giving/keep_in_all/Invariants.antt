use Rattle.std.proofs.Common.{◌≡◌, ◌++◌, map, take, drop, filter}
use Rattle.flow_code.specs.Holding.{number_of_pair, is_listed, with_pairs}
use Rattle.thread_interpreter.proofs.giving.keep_in_all.Given as goal

abbrev pub invariant-loop-at : goal.invariant-loop-at
invariant-loop-at l = l.regions.items ≡ map (λ r. with_pairs r (filter (λ x. is_listed l.stripes (number_of_pair x)) r.stripes)) (take l.at l.initial.regions.items) ++ drop l.at l.initial.regions.items
