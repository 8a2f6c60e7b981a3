use Rattle.lowering_simulation.proofs.WalkRuns.{walk_is_run}
use Rattle.lowering_simulation.proofs.laws.law_walk_run.Goals as goal

pub returns : goal.returns
returns c = walk_is_run
