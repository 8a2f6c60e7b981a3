use Rattle.std.proofs.Common.{refl, Ok}
use Rattle.std.proofs.lemmas.Result.{err_from_is_err_and}
use Rattle.command_line.specs.Jobs.{record_told}
use Rattle.command_line.specs.declared.answer.Part.TheVariants as part
use Rattle.job_outcomes.proofs.InRow.{gives_stop}
use Rattle.job_outcomes.specs.Steps.{Comes, IsInput}
use Rattle.job_runs.specs.Recordings.{IsRecorded}
use Rattle.job_runs.proofs.Recorded.{crew_gives, crew_stops, input_stops, no_crew}
use Rattle.job_runs.proofs.Worked.{all_is_idle, crew_is_idle, ran, told_of_run}
use Rattle.job_runs.proofs.recording.recorded_code.Goals as goal

pub returns-in_err-bytes-clause-outcome : goal.returns-in_err-bytes-clause-outcome
returns-in_err-bytes-clause-outcome g c =
    let p = err_from_is_err_and c.from_residual.result c.from_residual.ensures.1 in
    rw (p.1, p.2) (gives_stop _ _ c.in_err-bytes.field-0.0 c.in_err-bytes.ensures.content)

pub returns-in_err-bytes-clause-faults : goal.returns-in_err-bytes-clause-faults
returns-in_err-bytes-clause-faults g c =
    let p = err_from_is_err_and c.from_residual.result c.from_residual.ensures.1 in
    rw (p.1, p.2) (input_stops c.in_err-bytes.field-0.0 _ _ _ c.in_err-bytes.ensures.faults)

pub returns-in-Ok-clause-outcome : goal.returns-in-Ok-clause-outcome
returns-in-Ok-clause-outcome g c = record { step = Ok c.in_ok-bytes.bytes; is = c.in_ok-bytes.ensures.content; next = c.in-Ok.ensures.outcome.is }

pub returns-in-Err-clause-outcome : goal.returns-in-Err-clause-outcome
returns-in-Err-clause-outcome g c = crew_gives (Comes (IsInput (g.I.Source.left c.args.input.now) 1048576 part.Input) (IsRecorded _ _ (record_told c.args.job.now) c.args.profile c.args.weakened.now)) c.in-Err.stop _ _ c.in-Err.ensures.faults

pub returns-in-Err-clause-faults : goal.returns-in-Err-clause-faults
returns-in-Err-clause-faults g c = crew_stops c.in-Err.stop _ _ _ _ c.in_ok-bytes.ensures.faults c.in-Err.ensures.faults

pub returns-in_err-bytes-clause-idle : goal.returns-in_err-bytes-clause-idle
returns-in_err-bytes-clause-idle g c = all_is_idle _ _ _ refl

pub returns-in-Ok-clause-idle : goal.returns-in-Ok-clause-idle
returns-in-Ok-clause-idle g c = ran _ _ c.in-Ok.recording.outcome (told_of_run c.in-Ok.recording.outcome _ c.in-Ok.ensures.outcome.is.recorded.walk c.in-Ok.ensures.outcome.is.told refl)

pub returns-in-Err-clause-idle : goal.returns-in-Err-clause-idle
returns-in-Err-clause-idle g c = crew_is_idle _ _ c.in-Err.stop _ _ c.in-Err.ensures.faults

pub returns-in_err-bytes-clause-asks : goal.returns-in_err-bytes-clause-asks
returns-in_err-bytes-clause-asks g c =
    let p = err_from_is_err_and c.from_residual.result c.from_residual.ensures.1 in
    no_crew _ _ c.in_err-bytes.field-0.0 _ _ c.in_err-bytes.ensures.faults (rw (p.1, p.2) refl)

pub returns-in-Err-clause-asks : goal.returns-in-Err-clause-asks
returns-in-Err-clause-asks g c failed = (c.in_ok-bytes.bytes, c.in_ok-bytes.ensures.content)

pub returns-in-Ok-clause-crew : goal.returns-in-Ok-clause-crew
returns-in-Ok-clause-crew g c none = absurd (none (c.in_ok-bytes.bytes, c.in_ok-bytes.ensures.content))

pub returns-in-Err-clause-crew : goal.returns-in-Err-clause-crew
returns-in-Err-clause-crew g c none = absurd (none (c.in_ok-bytes.bytes, c.in_ok-bytes.ensures.content))
