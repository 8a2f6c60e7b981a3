-- A recorded run of a source.
use Rattle.std.specs.Prelude.{◌≡◌, ◌<◌, ℕ, List, [], ◌∷◌, length, Option}
use Rattle.std.specs.List.{AllByRecursion}
use Rattle.command_line.specs.Jobs.{RecordAsked}
use Rattle.command_line.specs.declared.answer.Part.TheVariants as part
use Rattle.c_tree.specs.Tree.{Outer}
use Rattle.core_run.specs.declared.outcome.Walk.{Walk}
use Rattle.profiles.specs.declared.profile.Profile.{Profile}
use Rattle.lock_sound.specs.Weakened.{Analysed}
use Rattle.job_outcomes.specs.Steps.{Comes, IsInput}
use Rattle.job_outcomes.specs.declared.outcome.Outcome.{Outcome}
use Rattle.order_log.specs.Log.{IsLog, KeepsLimits, LogView}
use Rattle.recorder.specs.Records.{Records}
use Rattle.sync_objects.specs.declared.entry.Entry.{Entry}
use Rattle.happens_before.specs.Orders.{AreOrdered}
use Rattle.job_runs.specs.Recordings.{log_of, log_put, setup_of}
use Rattle.job_runs.specs.Works.{HasRun, Work}
use Rattle.job_laws.specs.Sources.{IsFound, IsSourceWalk}
use Rattle.walk_answers.specs.Walking.{formula_of, outcome_of}

-- the log of a recording on bytes can be read: it is one, within the limits
abbrev pub IsReadable : LogView → Type 0
IsReadable log = AllByRecursion (λ byte. byte < 256) log.setup.input → IsLog log × KeepsLimits log

-- The log's entries are those of a run of the weakened code in which all threads have ended, and walking that code alone by them
-- comes to the run's end. The bytes, the kept accesses and the status are that walk's. The walk is a run of the source, which prints
-- these bytes, and each two conflicting accesses of the walk, as of the run, are ordered by logged operations. The crew has run a job
-- for each slot, with a turn for each entry or more.
pub record IsRecording (old new : Work) (r : RecordAsked) (p : Profile) (os : List Outer) (input : List ℕ) (o : Outcome) : Type 0 where
  pub found : Analysed
  pub is : IsFound os p found
  pub entries : List Entry
  pub walk : Walk
  pub records : Records found.weak (setup_of r input) (formula_of r.reads) entries walk
  pub source : IsSourceWalk os found.weak (setup_of r input) entries
  pub ordered : AreOrdered found.weak (setup_of r input) records.labels
  pub log : IsReadable (log_of r p input entries)
  pub crew : HasRun r.slots (length entries) old new
  pub told : o ≡ outcome_of (log_put r p input entries ∷ []) r.reads walk

-- ---- for private clauses

-- the input is read, and then a run recorded
abbrev pub RecordsInput : (old new : Work) → (left : Option (List ℕ)) → RecordAsked → Profile → List Outer → Outcome → Type 0
RecordsInput old new left r p os = Comes (IsInput left 1048576 part.Input) (IsRecording old new r p os)
