use Rattle.flow_code.specs.Settle.{settled}
use Rattle.lockset_sound.proofs.Names.{known_now, known_settled}
use Rattle.lockset_sound.proofs.Resolved.{name_leads}
use Rattle.lockset_sound.proofs.laws.law_named.Goals as goal

pub returns-clause-now : goal.returns-clause-now
returns-clause-now c = λ code setup state t told f r cell kind p valid constants limits reached at running there named resolves.
    name_leads code setup.slots f told.thread.top.instr told.thread.top.registers r cell kind p
    ((known_now code valid constants setup limits state t told reached at running).0 f there) named resolves

pub returns-clause-settled : goal.returns-clause-settled
returns-clause-settled c = λ code setup state t told f r cell kind p valid constants limits reached at running there named resolves.
    (let th = settled code setup t told.thread in
    name_leads code setup.slots f th.top.instr th.top.registers r cell kind p
    ((known_settled code valid constants setup limits state t told reached at running).0 f there) named resolves)
