use Rattle.lowering_simulation.proofs.Sources.{walk_events}
use Rattle.lowering_simulation.proofs.laws.law_walk_events.Goals as goal

pub returns : goal.returns
returns c = walk_events
