-- Steps in a row.
use Rattle.std.proofs.Common.{◌≡◌, refl, ℕ, Result, Ok, Err}
use Rattle.command_line.specs.declared.answer.Answer.{Answer}
use Rattle.job_outcomes.specs.Faults.{IsPure, ShelfStops}
use Rattle.job_outcomes.specs.Steps.{Comes, Finds, Gives}
use Rattle.job_outcomes.specs.declared.outcome.Outcome.{Outcome}
use Rattle.job_outcomes.specs.declared.stop.Stop.{Stop}
use Rattle.job_outcomes.specs.declared.stop.Stop.TheVariants as stop

-- what comes of what a step found
pub gives_next : {X : Type 0} (IsStep : Result X Answer → Type 0) (Next : X → Outcome → Type 0) (x : X) (r : Result Outcome Stop) → IsStep (Ok x) → Gives (Next x) r → Gives (Comes IsStep Next) r
gives_next IsStep Next x (Ok o) h g = record { step = Ok x; is = h; next = g }
gives_next IsStep Next x (Err (stop.Refused a)) h g = record { step = Ok x; is = h; next = g }
gives_next IsStep Next x (Err stop.ShelfFailed) h g = tt
gives_next IsStep Next x (Err stop.InputFailed) h g = tt
gives_next IsStep Next x (Err stop.CrewFailed) h g = tt
gives_next IsStep Next x (Err stop.OutOfMemory) h g = tt

-- a step that refused, or was stopped
pub gives_stop : {X : Type 0} (IsStep : Result X Answer → Type 0) (Next : X → Outcome → Type 0) (s : Stop) → Finds IsStep (Err s) → Gives (Comes IsStep Next) (Err s)
gives_stop IsStep Next (stop.Refused a) h = record { step = Err a; is = h; next = refl }
gives_stop IsStep Next stop.ShelfFailed h = tt
gives_stop IsStep Next stop.InputFailed h = tt
gives_stop IsStep Next stop.CrewFailed h = tt
gives_stop IsStep Next stop.OutOfMemory h = tt

-- what uses nothing of the outside raises no count
pub pure_shelf : (s : Stop) (old new : ℕ) → IsPure s → new ≡ old → ShelfStops s old new
pure_shelf (stop.Refused a) old new h e = e
pure_shelf stop.ShelfFailed old new h e = absurd h
pure_shelf stop.InputFailed old new h e = absurd h
pure_shelf stop.CrewFailed old new h e = absurd h
pure_shelf stop.OutOfMemory old new h e = e
