use Rattle.std.proofs.Common.{◌≡◌, ◌≤◌, refl, sym, ◌∙◌, subst, length, Err, arith}
use Rattle.std.proofs.lemmas.Result.{err_from_is_err_and}
use Rattle.profiles.specs.declared.profile.Profile.TheVariants as profile
use Rattle.job_laws.specs.Asks.{HasTree}
use Rattle.job_laws.specs.Sources.{RunsAsSource}
use Rattle.workload.specs.Program.{program_text}
use Rattle.jobs.proofs.Found.{same_compile}
use Rattle.jobs.proofs.Made.{later_ends, made_short, not_made, nothing_put, once_put, source_is_put, source_not_put}
use Rattle.jobs.proofs.making.make.Goals as goal

pub returns-in_err-source-clause-outcome : goal.returns-in_err-source-clause-outcome
returns-in_err-source-clause-outcome g c =
    let p = err_from_is_err_and c.from_residual.result c.from_residual.ensures.1 in
    let files = g.S.Shelf.files c.args.shelf.now in
    rw p.1 (nothing_put _ _ c.args.count c.args.name.now files files p.0 p.2 refl)

pub returns-in_err-log-clause-outcome : goal.returns-in_err-log-clause-outcome
returns-in_err-log-clause-outcome g c =
    let p = err_from_is_err_and c.from_residual-in_err-log.result c.from_residual-in_err-log.ensures.1 in
    let files = g.S.Shelf.files c.args.shelf.now in
    rw p.1 (nothing_put _ _ c.args.count c.args.name.now files files p.0 p.2 refl)

pub returns-in_err-keep-clause-outcome : goal.returns-in_err-keep-clause-outcome
returns-in_err-keep-clause-outcome g c =
    let p = err_from_is_err_and c.from_residual-in_err-keep.result c.from_residual-in_err-keep.ensures.1 in
    rw p.1 (source_not_put _ _ c.args.count c.args.name.now (g.S.Shelf.files c.args.shelf.now) (g.S.Shelf.files c.keep.new.self) c.in_err-keep.field-0.0 p.0 p.2 (λ e. c.keep.ensures.failed (cc (e, c.in_err-keep.was))) (λ e. c.keep.ensures.memory (cc (e, c.in_err-keep.was))))

pub made_code-requires : goal.made_code-requires
made_code-requires g c = subst (λ xs. length xs ≤ 1048576) (sym c.as_slice-text.ensures) (made_short c.args.count c.in_ok-source.source c.requires.to c.in_ok-source.ensures.len)

pub returns-in_err-weakened-clause-outcome : goal.returns-in_err-weakened-clause-outcome
returns-in_err-weakened-clause-outcome g c =
    let p = err_from_is_err_and c.from_residual-in_err-weakened.result c.from_residual-in_err-weakened.ensures.1 in
    let old = g.S.Shelf.files c.args.shelf.now in
    let new = g.S.Shelf.files c.keep.new.self in
    let text : c.as_slice-text.result.now ≡ program_text c.args.count = c.as_slice-text.ensures ∙ c.in_ok-source.ensures.text in
    let s = c.in_err-weakened.field-0.0 in
    rw (p.1, p.2) (not_made _ _ c.args.count c.args.name.now old new (source_is_put c.args.count c.args.name.now c.as_slice-text.result.now old new text c.in_ok-keep.ensures.ok) s
    (same_compile c.as_slice-text.result.now (program_text c.args.count) profile.All profile.All (Err s) text refl c.in_err-weakened.ensures.code))

pub overflow_cast-bytes : goal.overflow_cast-bytes
overflow_cast-bytes g c =
    let short : length c.as_slice-text.result.now ≤ 1048576 = subst (λ xs. length xs ≤ 1048576) (sym c.as_slice-text.ensures) (made_short c.args.count c.in_ok-source.source c.requires.to c.in_ok-source.ensures.len) in
    omega (arith, short)

pub made-told-requires-clause-code : goal.made-told-requires-clause-code
made-told-requires-clause-code g c κs within =
    let text : c.as_slice-text.result.now ≡ program_text c.args.count = c.as_slice-text.ensures ∙ c.in_ok-source.ensures.text in
    subst (λ xs. RunsAsSource xs c.in_ok-weakened.weakened) text c.in_ok-weakened.ensures.runs

pub returns-clause-outcome : goal.returns-clause-outcome
returns-clause-outcome g c =
    let old = g.S.Shelf.files c.args.shelf.now in
    let between = g.S.Shelf.files c.keep.new.self in
    let text : c.as_slice-text.result.now ≡ program_text c.args.count = c.as_slice-text.ensures ∙ c.in_ok-source.ensures.text in
    once_put _ _ c.args.count c.args.name.now c.recording_job-job.result.source.now old between (g.S.Shelf.files c.made-told.new.shelf) c.made-told.result c.recording_job-job.ensures.name c.made-told.ensures.outcome
    (source_is_put c.args.count c.args.name.now c.as_slice-text.result.now old between text c.in_ok-keep.ensures.ok)

pub returns-clause-faults : goal.returns-clause-faults
returns-clause-faults g c = later_ends c.made-told.result _ _ _ _ _ _ c.made-told.ensures.faults c.in_ok-keep.ensures.faults refl

pub returns-clause-runs : goal.returns-clause-runs
returns-clause-runs g c failed =
    let text : c.as_slice-text.result.now ≡ program_text c.args.count = c.as_slice-text.ensures ∙ c.in_ok-source.ensures.text in
    let runs = c.in_ok-weakened.ensures.runs in
    subst HasTree text (runs.os, runs.tree)

pub returns-clause-crew : goal.returns-clause-crew
returns-clause-crew g c none =
    let text : c.as_slice-text.result.now ≡ program_text c.args.count = c.as_slice-text.ensures ∙ c.in_ok-source.ensures.text in
    let runs = c.in_ok-weakened.ensures.runs in
    absurd (none (subst HasTree text (runs.os, runs.tree)))
