use Rattle.lowering_simulation.proofs.Sources.{source_run}
use Rattle.lowering_simulation.proofs.laws.law_source_run.Goals as goal

pub returns : goal.returns
returns c = source_run
