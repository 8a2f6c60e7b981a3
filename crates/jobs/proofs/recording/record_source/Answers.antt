use Rattle.std.proofs.Common.{subst, Ok}
use Rattle.command_line.specs.Jobs.{record_told}
use Rattle.job_profiles.specs.Profiles.{IsProfile}
use Rattle.jobs.proofs.Recorded.{record_gives}
use Rattle.jobs.proofs.recording.record_source.Goals as goal

pub returns-clause-outcome : goal.returns-clause-outcome
returns-clause-outcome g c =
    let files = g.S.Shelf.files c.args.shelf.now in
    let r = record_told c.args.job.now in
    record_gives _ _ files (g.I.Source.left c.args.input.now) r c.in_ok-text.text c.as_slice.result.now c.in_ok-profile.profile c.in_ok-profile-2.profile c.recorded.result
    c.in_ok-text.ensures.content (subst (λ f. IsProfile f r.profile (Ok c.in_ok-profile.profile)) c.in_ok-text.ensures.files c.in_ok-profile.ensures.profile) c.as_slice.ensures c.in_ok-profile-2.ensures.value c.recorded.ensures.outcome
