use Rattle.call_targets.proofs.Places.{main_stays}
use Rattle.call_targets.proofs.laws.law_resolved_start.Goals as goal

pub returns : goal.returns
returns c = main_stays
