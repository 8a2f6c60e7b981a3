-- A recorded run of weakened code: its log, and what is told of it.
use Rattle.std.specs.Prelude.{◌≡◌, ℕ, List, [], ◌∷◌, length, Option, Ok}
use Rattle.std.specs.List.{AllByRecursion}
use Rattle.happens_before.specs.Orders.{AreOrdered}
use Rattle.command_line.specs.Jobs.{RecordAsked}
use Rattle.command_line.specs.declared.answer.Part.TheVariants as part
use Rattle.lock_sound.specs.Weakened.{Analysed}
use Rattle.order_log.specs.Log.{AreWithin, LogView}
use Rattle.order_log.specs.Text.{log_text}
use Rattle.job_outcomes.specs.Puts.{Put}
use Rattle.job_outcomes.specs.Steps.{IsInput}
use Rattle.job_outcomes.specs.declared.outcome.Outcome.{Outcome}
use Rattle.profiles.specs.declared.profile.Profile.{Profile}
use Rattle.recorder.specs.Records.{Records}
use Rattle.recorder.specs.declared.record.Recorded.{Recorded}
use Rattle.sync_objects.specs.Names.{Fits}
use Rattle.sync_objects.specs.Setup.{SetupView}
use Rattle.sync_objects.specs.declared.entry.Entry.{Entry}
use Rattle.thread_interpreter.specs.declared.access.Formula.{Formula}
use Rattle.walk_answers.specs.Walking.{formula_of, outcome_of}
use Rattle.job_runs.specs.Works.{HasRun, Work}

-- slots, cells and limit as they were asked for, with the input read
abbrev pub setup_of : RecordAsked → (input : List ℕ) → SetupView
setup_of r input = record { slots = r.slots; cells = r.cells; limit = r.limit; input = input }

-- the log of a recording whose code has the weak locks of this profile
abbrev pub log_of : RecordAsked → Profile → (input : List ℕ) → List Entry → LogView
log_of r p input entries = record { setup = setup_of r input; profile = p; entries = entries }

-- the log of the run, as a file of the name asked for
abbrev pub log_put : RecordAsked → Profile → (input : List ℕ) → List Entry → Put
log_put r p input entries = record { name = r.log; content = log_text (log_of r p input entries) }

-- what is left of the input is no more than a recording takes: 1 MiB
abbrev pub HasInput : (left : Option (List ℕ)) → Type 0
HasInput left = (bytes : List ℕ) × IsInput left 1048576 part.Input (Ok bytes)

-- ---- for clauses of this crate and of the one above

-- what is left of a run of weakened code
pub record IsRunOf (old new : Work) (found : Analysed) (s : SetupView) (f : Formula) (recorded : Recorded) : Type 0 where
  pub records : Records found.weak s f recorded.entries recorded.walk
  pub ordered : AreOrdered found.weak s records.labels
  pub within : AreWithin s recorded.entries
  pub fitting : AllByRecursion (λ e. Fits e.op e.obj) recorded.entries
  pub crew : HasRun s.slots (length recorded.entries) old new

-- a recording, but for the source
pub record IsRecorded (old new : Work) (r : RecordAsked) (p : Profile) (found : Analysed) (input : List ℕ) (o : Outcome) : Type 0 where
  pub recorded : Recorded
  pub run : IsRunOf old new found (setup_of r input) (formula_of r.reads) recorded
  pub told : o ≡ outcome_of (log_put r p input recorded.entries ∷ []) r.reads recorded.walk

-- .. with its log
pub record IsLogged (old new : Work) (r : RecordAsked) (p : Profile) (found : Analysed) (input : List ℕ) (log : LogView) (o : Outcome) : Type 0 where
  pub is : IsRecorded old new r p found input o
  pub log_is : log ≡ log_of r p input is.recorded.entries
