use Rattle.snapshot_reached.proofs.Objects.{objects_fit}
use Rattle.snapshot_reached.proofs.laws.law_objects_fit.Goals as goal

pub returns : goal.returns
returns c = λ code setup at state valid runnable limits reached. objects_fit code setup at state valid runnable limits reached
