-- When the crew has done nothing.
use Rattle.std.proofs.Common.{◌≡◌, sym, ◌∙◌, ap, subst, ℕ, Result, Ok, Err}
use Rattle.command_line.specs.declared.answer.Answer.{Answer}
use Rattle.command_line.specs.declared.answer.Answer.TheVariants as answer
use Rattle.core_run.specs.declared.outcome.Walk.{Walk}
use Rattle.core_run.specs.declared.outcome.Walk.TheVariants as walk
use Rattle.job_outcomes.specs.Faults.{CrewStops}
use Rattle.job_outcomes.specs.declared.outcome.Outcome.{Outcome}
use Rattle.job_outcomes.specs.declared.stop.Stop.{Stop}
use Rattle.job_outcomes.specs.declared.stop.Stop.TheVariants as stop
use Rattle.walk_answers.specs.Walking.{answer_of}
use Rattle.job_runs.specs.Retold.{summary_told}
use Rattle.job_runs.specs.Works.{IsIdle, IsOfRun, Work}

-- ---- answers of a run

walk_is_of_run : (w : Walk) → IsOfRun (answer_of w)
walk_is_of_run (walk.Done out reads ends) = tt
walk_is_of_run (walk.Trapped kind thread line out reads ends) = tt
walk_is_of_run (walk.Wrong at) = tt

pub told_of_run : (o x : Outcome) (w : Walk) → o ≡ x → x.answer ≡ answer_of w → IsOfRun o.answer
told_of_run o x w e is = subst IsOfRun (sym (ap (λ (y : Outcome). y.answer) e ∙ is)) (walk_is_of_run w)

pub summary_is_of_run : (count bytes : ℕ) (a b : Answer) → IsOfRun a → IsOfRun (summary_told count bytes a b)
summary_is_of_run count bytes (answer.Done out) b h = tt
summary_is_of_run count bytes (answer.Trapped out kind thread line) b h = tt
summary_is_of_run count bytes (answer.WrongEntry at) b h = tt
summary_is_of_run count bytes answer.Usage b h = absurd h
summary_is_of_run count bytes (answer.SourceRefused number line column) b h = absurd h
summary_is_of_run count bytes (answer.LogRefused number line) b h = absurd h
summary_is_of_run count bytes (answer.ProfileRefused number) b h = absurd h
summary_is_of_run count bytes (answer.TooLarge what) b h = absurd h
summary_is_of_run count bytes (answer.CheckpointRefused number place) b h = absurd h

-- ---- results

module _ (old new : Work) where
  pub ran : (o : Outcome) → IsOfRun o.answer → IsIdle (Ok o) old new
  ran o h none = absurd (none h)

  -- a crew refuses nothing
  pub crew_is_idle : (s : Stop) (faults_old faults_new : ℕ) → CrewStops s faults_old faults_new → IsIdle (Err s) old new
  crew_is_idle (stop.Refused a) faults_old faults_new h = absurd h
  crew_is_idle stop.ShelfFailed faults_old faults_new h = tt
  crew_is_idle stop.InputFailed faults_old faults_new h = tt
  crew_is_idle stop.CrewFailed faults_old faults_new h = tt
  crew_is_idle stop.OutOfMemory faults_old faults_new h = tt

  pub all_is_idle : (r : Result Outcome Stop) → new ≡ old → IsIdle r old new
  all_is_idle (Ok o) e = λ none. e
  all_is_idle (Err (stop.Refused a)) e = λ none. e
  all_is_idle (Err stop.ShelfFailed) e = tt
  all_is_idle (Err stop.InputFailed) e = tt
  all_is_idle (Err stop.CrewFailed) e = tt
  all_is_idle (Err stop.OutOfMemory) e = tt
