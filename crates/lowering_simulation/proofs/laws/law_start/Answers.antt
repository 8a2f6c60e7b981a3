use Rattle.lowering_simulation.proofs.Starts.{starts}
use Rattle.lowering_simulation.proofs.laws.law_start.Goals as goal

pub returns : goal.returns
returns c = starts
