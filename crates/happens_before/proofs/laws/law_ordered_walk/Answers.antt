use Rattle.lowering_simulation.specs.WalkEvents.{labels_of_walk}
use Rattle.lowering_simulation.proofs.WalkRuns.{walk_is_run}
use Rattle.happens_before.proofs.Ordering.{ordered}
use Rattle.happens_before.proofs.laws.law_ordered_walk.Goals as goal

pub returns : goal.returns
returns c = λ a s es end h limits walked. λ i j first second lt.
    ordered a s (labels_of_walk a.weak s es) i j first second end h limits (walk_is_run a.weak s es end walked) lt
