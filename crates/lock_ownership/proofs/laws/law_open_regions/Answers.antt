use Rattle.flow_code.specs.Settle.{settled}
use Rattle.lock_ownership.proofs.DueSteps.{settled_settles}
use Rattle.lock_ownership.proofs.StripeLaws.{has_its, stripes_hold}
use Rattle.lock_ownership.proofs.laws.law_open_regions.Goals as goal

pub returns-clause-now : goal.returns-clause-now
returns-clause-now c = λ code setup state t told run limits reached at. has_its told.thread ((stripes_hold code setup run limits state reached).agree t told at)

pub returns-clause-settled : goal.returns-clause-settled
returns-clause-settled c = λ code setup state t told run limits reached at.
    has_its (settled code setup t told.thread) ((settled_settles code setup t told.thread).agrees ((stripes_hold code setup run limits state reached).agree t told at))
