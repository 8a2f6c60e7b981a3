use Rattle.flow_code.proofs.Runnable.{valid_runnable}
use Rattle.lockset_sound.proofs.Corollaries.{one_holds}
use Rattle.lockset_sound.proofs.laws.law_one_holds.Goals as goal

pub returns : goal.returns
returns c = λ code setup state first second kind t u cell valid limits reached apart h k. one_holds code setup state first second kind t u cell (valid_runnable code valid) limits reached apart h k
