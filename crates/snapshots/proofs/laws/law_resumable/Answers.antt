use Rattle.snapshots.proofs.Resumable.{resumable}
use Rattle.snapshots.proofs.laws.law_resumable.Goals as goal

pub returns : goal.returns
returns c = resumable
