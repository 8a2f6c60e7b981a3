use Rattle.log_limits.proofs.Within.{merge_is_short}
use Rattle.log_limits.proofs.laws.law_log_is_short.Goals as goal

pub returns : goal.returns
returns c = λ code setup labels end run limits runs. merge_is_short code setup run limits labels end runs
