use Rattle.region_stripes.proofs.Ranged.{kept_inside}
use Rattle.region_stripes.proofs.loops.law_kept_in_runs.Goals as goal

pub returns : goal.returns
returns c = kept_inside
