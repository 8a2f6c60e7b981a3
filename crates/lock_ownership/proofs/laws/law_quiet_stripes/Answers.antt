use Rattle.lock_ownership.proofs.StripeLaws.{stripes_hold, settled_holds}
use Rattle.lock_ownership.proofs.laws.law_quiet_stripes.Goals as goal

pub returns : goal.returns
returns c = λ code setup state t told lock stripe run limits reached at. settled_holds code setup t told.thread lock stripe ((stripes_hold code setup run limits state reached).agree t told at)
