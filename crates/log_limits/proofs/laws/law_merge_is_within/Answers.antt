use Rattle.log_limits.proofs.Weakened.{each_merge_is_within}
use Rattle.log_limits.proofs.laws.law_merge_is_within.Goals as goal

pub returns : goal.returns
returns c = each_merge_is_within
