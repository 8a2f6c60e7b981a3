use Rattle.region_stripes.proofs.Ranged.{in_range}
use Rattle.region_stripes.proofs.loops.law_range_in_runs.Goals as goal

pub returns : goal.returns
returns c = in_range
