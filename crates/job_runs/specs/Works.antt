-- What a crew does for a job, by its counts before and after.
use Rattle.std.specs.Prelude.{◌≡◌, ℕ, Result, Ok, Err}
use Rattle.command_line.specs.declared.answer.Answer.{Answer}
use Rattle.command_line.specs.declared.answer.Answer.TheVariants as answer
use Rattle.crew.specs.Counts.{RoseAtLeast, RoseBy}
use Rattle.crew.specs.declared.crew.Crew as Crew
use Rattle.job_outcomes.specs.declared.outcome.Outcome.{Outcome}
use Rattle.job_outcomes.specs.declared.stop.Stop.{Stop}
use Rattle.job_outcomes.specs.declared.stop.Stop.TheVariants as stop

-- how many jobs a crew has run to their end, and how many turns it has given
pub record Work : Type 0 where
  pub jobs : ℕ
  pub turns : ℕ

-- how many jobs and turns the crew has counted so far
abbrev pub work_of : {C : Type 0} → Crew.Ghosts C → C → Work
work_of g crew = record { jobs = g.jobs_run crew; turns = g.turns crew }

-- it has run so many jobs since, in this many turns or more
pub record HasRun (count least : ℕ) (old new : Work) : Type 0 where
  pub jobs : RoseBy count old.jobs new.jobs
  pub turns : RoseAtLeast least old.turns new.turns

-- what is answered of a run. Each other answer is given before anything is run
abbrev pub IsOfRun : Answer → Type 0
IsOfRun (answer.Done out) = Unit {0}
IsOfRun (answer.Trapped out kind thread line) = Unit {0}
IsOfRun (answer.WrongEntry at) = Unit {0}
IsOfRun _ = ⊥

-- ---- for private clauses

-- nothing was run for another answer than that of a run; of other ends nothing is told
abbrev pub IsIdle : Result Outcome Stop → (old new : Work) → Type 0
IsIdle (Ok o) old new = (IsOfRun o.answer → ⊥) → new ≡ old
IsIdle (Err (stop.Refused a)) old new = (IsOfRun a → ⊥) → new ≡ old
IsIdle (Err stop.ShelfFailed) old new = Unit {0}
IsIdle (Err stop.InputFailed) old new = Unit {0}
IsIdle (Err stop.CrewFailed) old new = Unit {0}
IsIdle (Err stop.OutOfMemory) old new = Unit {0}
