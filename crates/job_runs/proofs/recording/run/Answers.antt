use Rattle.std.proofs.Common.{◌≡◌, true, sym, subst}
use Rattle.core_run.specs.Histories.{HasNoRace}
use Rattle.flow_code.specs.Constants.{constants_fit}
use Rattle.flow_code.specs.Valid.{is_valid}
use Rattle.job_runs.proofs.Recorded.{left_of_run}
use Rattle.job_runs.proofs.recording.run.Goals as goal

pub record_threads-requires-clause-valid : goal.record_threads-requires-clause-valid
record_threads-requires-clause-valid g c = λ lifetimes bounds. subst (λ code. is_valid code ≡ true) (sym c.code-code.ensures.value) (c.law_weakened_is_valid.ensures c.args.weakened.now c.code-code.ensures.kept)

pub record_threads-requires-clause-constants : goal.record_threads-requires-clause-constants
record_threads-requires-clause-constants g c = λ lifetimes bounds. subst (λ code. constants_fit code ≡ true) (sym c.code-code.ensures.value) (c.law_weakened_constants_fit.ensures c.args.weakened.now c.code-code.ensures.kept)

pub record_threads-requires-clause-race_free : goal.record_threads-requires-clause-race_free
record_threads-requires-clause-race_free g c = λ lifetimes bounds. subst (λ code. HasNoRace code c.args.setup.now) (sym c.code-code.ensures.value) (c.law_no_race.ensures c.args.weakened.now c.args.setup.now c.code-code.ensures.kept c.slots-slots.ensures.within)

pub returns-in-Ok-clause-run : goal.returns-in-Ok-clause-run
returns-in-Ok-clause-run g c =
    let w = c.args.weakened.now in
    let s = c.args.setup.now in
    let kept = c.code-code.ensures.kept in
    let within = c.slots-slots.ensures.within in
    left_of_run _ _ w s c.code-code.result.now c.args.formula.now c.in-Ok.recorded c.code-code.ensures.value
    (λ labels end ran. λ i j first second lt x y ne conflict. c.law_ordered.ensures w s labels i j first second end kept within ran lt x y ne conflict)
    (λ labels end ran. c.law_log_is_within.ensures w s labels end kept within ran)
    c.in-Ok.ensures.records (record { jobs = c.in-Ok.ensures.jobs_run; turns = c.in-Ok.ensures.turns })
