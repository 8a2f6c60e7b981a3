use Rattle.log_limits.proofs.Weakened.{log_is_within}
use Rattle.log_limits.proofs.laws.law_log_is_within.Goals as goal

pub returns : goal.returns
returns c = log_is_within
