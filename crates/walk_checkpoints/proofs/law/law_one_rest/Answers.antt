use Rattle.walk_checkpoints.proofs.One.{one_rest}
use Rattle.walk_checkpoints.proofs.law.law_one_rest.Goals as goal

pub returns : goal.returns
returns c = one_rest
