use Rattle.source_loops.proofs.Marks.{apart}
use Rattle.source_loops.proofs.laws.law_loops_are_apart.Goals as goal

pub returns : goal.returns
returns c = apart
