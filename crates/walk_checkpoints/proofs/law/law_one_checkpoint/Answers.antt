use Rattle.walk_checkpoints.proofs.One.{one_checkpoint}
use Rattle.walk_checkpoints.proofs.law.law_one_checkpoint.Goals as goal

pub returns : goal.returns
returns c = one_checkpoint
