-- A large source is made and put, recorded, and replayed by its log.
use Rattle.std.specs.Prelude.{◌≡◌, ℕ, List, [], ◌∷◌, ◌++◌, length, Option, None, Result, Ok, codes}
use Rattle.command_line.specs.Jobs.{RecordAsked}
use Rattle.c_tree.specs.Tree.{Outer}
use Rattle.profiles.specs.declared.profile.Profile.TheVariants as profile
use Rattle.order_log.specs.Log.{LogView}
use Rattle.job_outcomes.specs.Endings.{ComesTo}
use Rattle.job_outcomes.specs.Outcomes.{following}
use Rattle.job_outcomes.specs.Puts.{ArePut, Put}
use Rattle.job_outcomes.specs.Steps.{Comes}
use Rattle.job_outcomes.specs.declared.outcome.Outcome.{Outcome}
use Rattle.job_outcomes.specs.declared.stop.Stop.{Stop}
use Rattle.job_outcomes.specs.declared.stop.Stop.TheVariants as stop
use Rattle.rr_base.specs.Files.{Files}
use Rattle.sync_objects.specs.declared.entry.Entry.{Entry}
use Rattle.workload.specs.Program.{program_text}
use Rattle.job_runs.specs.Recordings.{log_of}
use Rattle.job_runs.specs.Retold.{summary_told}
use Rattle.job_runs.specs.Works.{Work}
use Rattle.job_laws.specs.Recordings.{IsRecording}
use Rattle.job_laws.specs.Replays.{Replays}
use Rattle.job_laws.specs.Sources.{IsTree}

-- ---- what is put

-- the source with this many functions, as a file of this name
abbrev pub source_put : (count : ℕ) → (name : List ℕ) → Put
source_put count name = record { name = name; content = program_text count }

-- the recording of this source, as without an option; the log's name has `.log` after the source's
abbrev pub recording_of : (name : List ℕ) → RecordAsked
recording_of name = record { source = name; log = name ++ codes ".log"; profile = None; slots = 8; cells = 16384; limit = 16777216; budget = 1000; reads = None }

-- its log, of a run without input
abbrev pub made_log : (name : List ℕ) → List Entry → LogView
made_log name entries = log_of (recording_of name) profile.All [] entries

-- ---- the outcomes

-- The tree is recorded, for which any two functions may be at work at once, and it has no input; then that log is replayed.
pub record IsMade (old new : Work) (count : ℕ) (name : List ℕ) (os : List Outer) (o : Outcome) : Type 0 where
  pub between : Work
  pub recorded : Outcome
  pub recording : IsRecording old between (recording_of name) profile.All os [] recorded
  pub replayed : Outcome
  pub replaying : Replays between new (made_log name recording.entries) None os replayed
  pub told : o ≡ record { puts = recorded.puts; answer = summary_told count (length (program_text count)) recorded.answer replayed.answer }

-- What is put before the job stops so: the source; or then, where only the replay is left to do, the log of the recording that the
-- crew has run since the call began, too. Where the crew fails, the first is left if it has run none of the recording's jobs, and
-- both if it has run these and none of the replay's.
pub data IsPutInMaking (old new : Work) (count : ℕ) (name : List ℕ) (s : Stop) (puts : List Put) : Type 0 where
  Source : puts ≡ source_put count name ∷ [] → (s ≡ stop.CrewFailed → new.jobs ≡ old.jobs) → IsPutInMaking old new count name s puts
  SourceAndLog : (between : Work) (os : List Outer) (recorded : Outcome) → IsTree (program_text count) (Ok os) → IsRecording old between (recording_of name) profile.All os [] recorded → puts ≡ source_put count name ∷ recorded.puts → (s ≡ stop.CrewFailed → new.jobs ≡ between.jobs) → IsPutInMaking old new count name s puts

-- ---- for private clauses

-- The source is put before anything else.
pub record IsMaking (old new : Work) (count : ℕ) (name : List ℕ) (o : Outcome) : Type 0 where
  pub rest : Outcome
  pub comes : Comes (IsTree (program_text count)) (IsMade old new count name) rest
  pub told : o ≡ following (source_put count name ∷ []) rest

-- what a call that makes a source comes to
abbrev pub Makes : (old new : Work) → (count : ℕ) → (name : List ℕ) → (before after : Option Files) → Result Outcome Stop → Type 0
Makes old new count name before after r = ComesTo (IsMaking old new count name) (IsPutInMaking old new count name) before after r

-- .. once the source is put, whatever was there before
abbrev pub MakesOncePut : (old new : Work) → (count : ℕ) → (name : List ℕ) → (between after : Option Files) → Result Outcome Stop → Type 0
MakesOncePut old new count name between after r = (before : Option Files) → ArePut (source_put count name ∷ []) before between → Makes old new count name before after r
