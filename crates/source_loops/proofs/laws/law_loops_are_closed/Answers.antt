use Rattle.source_loops.proofs.Closed.{closed}
use Rattle.source_loops.proofs.laws.law_loops_are_closed.Goals as goal

pub returns : goal.returns
returns c = closed
