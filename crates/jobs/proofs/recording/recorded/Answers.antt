use Rattle.command_line.specs.Jobs.{record_told}
use Rattle.jobs.proofs.Found.{not_compiled}
use Rattle.std.proofs.Common.{refl, Err}
use Rattle.jobs.proofs.Recorded.{recorded_gives, runs_nothing}
use Rattle.job_runs.proofs.Recorded.{log_of}
use Rattle.job_runs.proofs.Worked.{all_is_idle}
use Rattle.jobs.proofs.recording.recorded.Goals as goal

pub returns-in-Ok-clause-outcome : goal.returns-in-Ok-clause-outcome
returns-in-Ok-clause-outcome g c =
    let w = c.in-Ok.weakened in
    let h = c.in-Ok.ensures in
    recorded_gives _ _ c.args.source.now (g.I.Source.left c.args.input.now) (record_told c.args.job.now) c.args.profile w c.requires.limits c.requires.names h c.recorded_code-told.result
    (λ s labels end within ran ended. let t = c.law_text_log.ensures c.args.source.now h.0 w s labels end c.requires.short h.1 h.2.is h.2.of within ran ended in record { runs = t.1; prints = t.2; ordered = c.law_ordered_walk.ensures w s (log_of end) end h.2.is within t.0 })
    c.recorded_code-told.ensures.outcome

pub returns-clause-outcome : goal.returns-clause-outcome
returns-clause-outcome g c = not_compiled c.args.source.now c.args.profile _ c.in-Err.stop c.in-Err.ensures

pub returns-clause-faults : goal.returns-clause-faults
returns-clause-faults g c = runs_nothing c.args.source.now c.args.profile c.in-Err.stop _ _ c.in-Err.ensures

pub compiled-requires : goal.compiled-requires
compiled-requires g c = c.requires.short

pub returns-in-Ok-clause-faults : goal.returns-in-Ok-clause-faults
returns-in-Ok-clause-faults g c = c.recorded_code-told.ensures.faults

pub returns-in-Ok-clause-idle : goal.returns-in-Ok-clause-idle
returns-in-Ok-clause-idle g c = c.recorded_code-told.ensures.idle

pub returns-clause-idle : goal.returns-clause-idle
returns-clause-idle g c = all_is_idle _ _ (Err c.in-Err.stop) refl
