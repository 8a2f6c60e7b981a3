use Rattle.command_line.specs.Jobs.{record_told}
use Rattle.job_runs.proofs.Recorded.{logged_of, setup_within}
use Rattle.job_runs.proofs.recording.recorded_on.Goals as goal

pub new-setup-requires : goal.new-setup-requires
new-setup-requires g c = setup_within (record_told c.args.job.now) c.args.input c.requires.limits c.requires.short

pub returns-in-Ok-clause-outcome : goal.returns-in-Ok-clause-outcome
returns-in-Ok-clause-outcome g c =
    let it = c.in_ok-told-in-Ok.field-0 in
    logged_of _ _ (record_told c.args.job.now) c.args.profile c.args.weakened.now c.args.input c.in-Ok.recorded _ _ it.log it.outcome c.new-setup.ensures c.formula_of-formula.ensures c.in-Ok.ensures.run c.in_ok-told-in-Ok.ensures.log c.in_ok-told-in-Ok.ensures.outcome
