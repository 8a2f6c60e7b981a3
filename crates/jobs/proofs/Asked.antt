-- Why a job stops, and what the outside had been asked for then.
use Rattle.std.proofs.Common.{◌≡◌, refl, ℕ, Result, Ok, Err}
use Rattle.std.specs.Prelude.{IfErr, MatchResult}
use Rattle.job_outcomes.specs.Endings.{MayStop}
use Rattle.job_outcomes.specs.Faults.{CrewShelfStops}
use Rattle.job_outcomes.specs.declared.outcome.Outcome.{Outcome}
use Rattle.job_outcomes.specs.declared.stop.Stop.{Stop}
use Rattle.job_outcomes.specs.declared.stop.Stop.TheVariants as stop

-- each fault comes where its part of the outside was asked for
pub stops_by : (Shelf Input Crew : Type 0) (r : Result Outcome Stop) → Shelf → (r ≡ Err stop.InputFailed → Input) → (r ≡ Err stop.CrewFailed → Crew) → IfErr r (MayStop Shelf Input Crew)
stops_by Shelf Input Crew (Ok o) shelf input crew = tt
stops_by Shelf Input Crew (Err (stop.Refused a)) shelf input crew = tt
stops_by Shelf Input Crew (Err stop.ShelfFailed) shelf input crew = shelf
stops_by Shelf Input Crew (Err stop.InputFailed) shelf input crew = input refl
stops_by Shelf Input Crew (Err stop.CrewFailed) shelf input crew = crew refl
stops_by Shelf Input Crew (Err stop.OutOfMemory) shelf input crew = tt

-- what uses the shelf and a crew reads no input
pub none_read : (X : Type 0) (IsFound : Outcome → Type 0) (r : Result Outcome Stop) (shelf_old shelf_new crew_old crew_new : ℕ) → MatchResult r IsFound (λ s. CrewShelfStops s shelf_old shelf_new crew_old crew_new) → r ≡ Err stop.InputFailed → X
none_read X IsFound (Ok o) shelf_old shelf_new crew_old crew_new h e = absurd (cc e)
none_read X IsFound (Err (stop.Refused a)) shelf_old shelf_new crew_old crew_new h e = absurd (cc e)
none_read X IsFound (Err stop.ShelfFailed) shelf_old shelf_new crew_old crew_new h e = absurd (cc e)
none_read X IsFound (Err stop.InputFailed) shelf_old shelf_new crew_old crew_new h e = absurd h
none_read X IsFound (Err stop.CrewFailed) shelf_old shelf_new crew_old crew_new h e = absurd (cc e)
none_read X IsFound (Err stop.OutOfMemory) shelf_old shelf_new crew_old crew_new h e = absurd (cc e)
