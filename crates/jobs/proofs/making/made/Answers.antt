use Rattle.std.proofs.Common.{refl, sym, subst, ap, Err, [], length, ◌≤◌, arith}
use Rattle.command_line.specs.Jobs.{HasRecordLimits, record_told}
use Rattle.profiles.specs.declared.profile.Profile.TheVariants as profile
use Rattle.job_laws.specs.Makings.{recording_of}
use Rattle.jobs.proofs.Made.{crew_ends, default_limits, later_ends, making, making_is_idle, not_recorded, same_logged}
use Rattle.job_runs.proofs.Worked.{crew_is_idle}
use Rattle.jobs.proofs.making.made.Goals as goal

pub recorded_on-requires-clause-limits : goal.recorded_on-requires-clause-limits
recorded_on-requires-clause-limits g c = λ κs within. subst HasRecordLimits (sym c.requires.job) (default_limits c.args.job.now.source.now)

pub recorded_on-requires-clause-short : goal.recorded_on-requires-clause-short
recorded_on-requires-clause-short g c = λ κs within. subst (λ xs. length xs ≤ 1048576) (sym c.new-input.ensures) (omega arith)

pub returns-in-Ok-clause-outcome : goal.returns-in-Ok-clause-outcome
returns-in-Ok-clause-outcome g c = λ old put.
    let name = c.args.job.now.source.now in
    let it = c.in-Ok.recording in
    making _ _ _ c.args.count name old _ _ c.args.weakened.now it.log it.outcome c.requires.code
    (same_logged _ _ (record_told c.args.job.now) (recording_of name) profile.All c.args.weakened.now c.new-input.result [] it.log it.outcome c.requires.job c.new-input.ensures c.in-Ok.ensures.outcome)
    put c.args.bytes c.requires.bytes c.replayed_log.result _ _ _ _ _ c.replayed_log.ensures.outcome c.replayed_log.ensures.failed c.replayed_log.ensures.faults

pub returns-in-Ok-clause-faults : goal.returns-in-Ok-clause-faults
returns-in-Ok-clause-faults g c = later_ends c.replayed_log.result _ _ _ _ _ _ c.replayed_log.ensures.faults refl c.in-Ok.ensures.faults

pub returns-in-Err-clause-outcome : goal.returns-in-Err-clause-outcome
returns-in-Err-clause-outcome g c = λ old put. not_recorded _ _ c.args.count c.args.job.now.source.now old _ put c.in-Err.stop _ _ c.in-Err.ensures.faults (λ e. c.in-Err.ensures.failed (ap Err e))

pub returns-in-Err-clause-faults : goal.returns-in-Err-clause-faults
returns-in-Err-clause-faults g c = crew_ends _ _ _ _ c.in-Err.stop c.in-Err.ensures.faults refl

pub returns-in-Err-clause-idle : goal.returns-in-Err-clause-idle
returns-in-Err-clause-idle g c = crew_is_idle _ _ c.in-Err.stop _ _ c.in-Err.ensures.faults

pub returns-in-Ok-clause-idle : goal.returns-in-Ok-clause-idle
returns-in-Ok-clause-idle g c =
    let it = c.in-Ok.recording in
    making_is_idle _ _ _ c.args.count c.args.bytes (record_told c.args.job.now) c.args.weakened.now it.log it.outcome
    (same_logged _ _ (record_told c.args.job.now) (record_told c.args.job.now) profile.All c.args.weakened.now c.new-input.result [] it.log it.outcome refl c.new-input.ensures c.in-Ok.ensures.outcome)
    _ _ c.replayed_log.result c.replayed_log.ensures.outcome
