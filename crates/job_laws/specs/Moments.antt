-- What a call has of the outside at a moment, and how it ends.
use Rattle.std.specs.Prelude.{◌≡◌, ℕ, List, Option, Some, Result, IfErr, MatchResult}
use Rattle.command_line.specs.Endings.{Sight}
use Rattle.command_line.specs.Jobs.{Asked}
use Rattle.crew.specs.declared.crew.Crew as Crew
use Rattle.job_outcomes.specs.Endings.{ComesTo, Ends, MayStop, Outside}
use Rattle.job_outcomes.specs.Faults.{Counts, StopCounts}
use Rattle.job_outcomes.specs.declared.outcome.Outcome.{Outcome}
use Rattle.job_outcomes.specs.declared.stop.Stop.{Stop}
use Rattle.job_runs.specs.Works.{Work, work_of}
use Rattle.rr_base.specs.Files.{Files}
use Rattle.rr_base.specs.declared.shelf.Shelf as Shelf
use Rattle.rr_base.specs.declared.sink.Sink as Sink
use Rattle.rr_base.specs.declared.source.Source as Source
use Rattle.job_laws.specs.Asks.{AsksCrew, AsksInput}
use Rattle.job_laws.specs.Jobs.{IsOutcome, PutsBefore, UsesShelf}

-- the files, where the shelf tells them; what is left of the input, where that is told; what the crew has done; the counts of faults
pub record Moment : Type 0 where
  pub files : Option Files
  pub left : Option (List ℕ)
  pub work : Work
  pub counts : Counts

-- that of a shelf, an input and a crew
abbrev pub moment : {S I C : Type 0} → Shelf.Ghosts S → Source.Ghosts I → Crew.Ghosts C → S → I → C → Moment
moment s i c shelf input crew = record { files = s.files shelf; left = i.left input; work = work_of c crew; counts = record { shelf = s.faults shelf; input = i.faults input; crew = c.faults crew } }

-- what is seen of an output
abbrev pub sight_of : {O : Type 0} → Sink.Ghosts O → O → Sight
sight_of o out = record { held = o.held out; faults = o.faults out }

-- .. beside the rest of the outside
abbrev pub outside_of : Moment → Sight → Outside
outside_of at out = record { files = at.files; counts = at.counts; out = out }

-- how a call ends that does this job, or has words that are none
abbrev pub EndsFor : Option Asked → (old new : Moment) → (out_old out_new : Sight) → (result : ℕ) → Type 0
EndsFor job old new out_old out_new result = Ends (IsOutcome old.work new.work old.files old.left job) (PutsBefore old.work new.work job) (UsesShelf job) (AsksInput old.files job) (AsksCrew old.files old.left job) (outside_of old out_old) (outside_of new out_new) result

-- ---- for private clauses

-- what a job comes to, and what it has put on the way
abbrev pub ComesFor : Asked → (old new : Moment) → Result Outcome Stop → Type 0
ComesFor job old new r = ComesTo (IsOutcome old.work new.work old.files old.left (Some job)) (PutsBefore old.work new.work (Some job)) old.files new.files r

-- no count has risen but by the fault for which it stopped
abbrev pub CountsFor : (old new : Moment) → Result Outcome Stop → Type 0
CountsFor old new r = MatchResult r (λ _. (new.counts.shelf ≡ old.counts.shelf) × (new.counts.input ≡ old.counts.input) × (new.counts.crew ≡ old.counts.crew)) (λ stop. StopCounts stop old.counts new.counts)

-- it stopped only for a fault of what it had asked for
abbrev pub StopsFor : Asked → (old : Moment) → Result Outcome Stop → Type 0
StopsFor job old r = IfErr r (MayStop (UsesShelf (Some job)) (AsksInput old.files (Some job)) (AsksCrew old.files old.left (Some job)))
