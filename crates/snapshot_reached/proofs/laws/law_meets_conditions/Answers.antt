use Rattle.snapshot_reached.proofs.Meets.{meets}
use Rattle.snapshot_reached.proofs.laws.law_meets_conditions.Goals as goal

pub returns : goal.returns
returns c = λ a setup entries at state is limits reached can stored within. meets a is setup limits entries at state reached within can.entered can.words stored
