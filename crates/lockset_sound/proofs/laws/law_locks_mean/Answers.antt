use Rattle.lockset_sound.proofs.InRuns.{frames_now, frames_settled}
use Rattle.lockset_sound.proofs.laws.law_locks_mean.Goals as goal

pub returns-clause-now : goal.returns-clause-now
returns-clause-now c = λ code setup tops points state t told valid constants limits solves long reached at running.
    (frames_now code valid constants setup limits tops points solves long state t told reached at running).stack

pub returns-clause-settled : goal.returns-clause-settled
returns-clause-settled c = λ code setup tops points state t told valid constants limits solves long reached at running.
    (frames_settled code valid constants setup limits tops points solves long state t told reached at running).stack
