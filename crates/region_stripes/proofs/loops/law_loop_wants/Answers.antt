use Rattle.region_stripes.proofs.Wanting.{loop_wants}
use Rattle.region_stripes.proofs.loops.law_loop_wants.Goals as goal

pub returns : goal.returns
returns c = loop_wants
