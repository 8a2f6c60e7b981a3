use Rattle.guard_paths.proofs.Covered.{opened_once}
use Rattle.guard_paths.proofs.laws.law_regions_open_once.Goals as goal

pub returns : goal.returns
returns c = opened_once
