-- The outcomes that each job may have on the files of a shelf and an input, where these tell what they hold.
use Rattle.std.specs.Prelude.{◌≡◌, ℕ, Bool, nat_le, List, [], ◌∷◌, Option, Some, None}
use Rattle.command_line.specs.Jobs.{Asked}
use Rattle.command_line.specs.Jobs.Asked.{Races, Weaken, Record, Replay, Profile, Watch, Chain, Checkpoint, Resume, Make}
use Rattle.command_line.specs.declared.answer.Answer.TheVariants as answer
use Rattle.c_tree.specs.Tree.{Outer}
use Rattle.job_outcomes.specs.Outcomes.{answers, following}
use Rattle.job_outcomes.specs.Puts.{Put}
use Rattle.job_outcomes.specs.declared.outcome.Outcome.{Outcome}
use Rattle.job_outcomes.specs.declared.stop.Stop.{Stop}
use Rattle.job_profiles.specs.Profiles.{named}
use Rattle.job_runs.specs.Works.{IsOfRun, Work}
use Rattle.order_log.specs.Log.{LogView}
use Rattle.profiles.specs.declared.profile.Profile.{Profile as ProfileOf}
use Rattle.rr_base.specs.Files.{Files}
use Rattle.job_laws.specs.Chainings.{OrdersLog, point_of}
use Rattle.job_laws.specs.Checkpoints.{GoesOnFrom, KeepsState}
use Rattle.job_laws.specs.Listings.{ListsRaces, ListsWeakLocks}
use Rattle.job_laws.specs.Makings.{IsMade, IsPutInMaking, source_put}
use Rattle.job_laws.specs.Profilings.{ShowsLog}
use Rattle.job_laws.specs.Readings.{Reads, reading_of}
use Rattle.job_laws.specs.Recordings.{IsRecording}
use Rattle.job_laws.specs.Replays.{Replays}
use Rattle.job_laws.specs.Watchings.{TellsLog}

-- ---- what a job touches

-- all jobs read or put files
abbrev pub UsesShelf : Option Asked → Type 0
UsesShelf None = ⊥
UsesShelf _ = Unit {0}

-- those that need a crew
abbrev pub RunsThreads : Option Asked → Type 0
RunsThreads (Some (Record r)) = Unit {0}
RunsThreads (Some (Replay source log reads)) = Unit {0}
RunsThreads (Some (Make count name)) = Unit {0}
RunsThreads _ = ⊥

-- it records a run, of whose logs files and words don't tell which
abbrev pub RecordsRun : Option Asked → Type 0
RecordsRun (Some (Record r)) = Unit {0}
RecordsRun (Some (Make count name)) = Unit {0}
RecordsRun _ = ⊥

-- ---- the outcomes

-- what comes of a job once all that it reads is accepted: the profile, the log, the bytes of a checkpoint, the tree and the input
abbrev pub IsDone : (old new : Work) → Asked → ProfileOf → LogView → (held : List ℕ) → List Outer → (input : List ℕ) → Outcome → Type 0
IsDone old new (Races source) p log held os input o = ListsRaces os o
IsDone old new (Weaken source name) p log held os input o = ListsWeakLocks p os o
IsDone old new (Record r) p log held os input o = IsRecording old new r (named p) os input o
IsDone old new (Replay source name reads) p log held os input o = Replays old new log reads os o
IsDone old new (Profile source name out) p log held os input o = ShowsLog log out os o
IsDone old new (Watch source name formula) p log held os input o = TellsLog log formula os o
IsDone old new (Chain source name one other) p log held os input o = OrdersLog log (point_of one) (point_of other) os o
IsDone old new (Checkpoint source name count out) p log held os input o = KeepsState log count out os o
IsDone old new (Resume source name checkpoint) p log held os input o = GoesOnFrom log held os o
IsDone old new (Make count name) p log held os input o = IsMade old new count name os o

-- what is put before anything else: a made source
abbrev pub puts_first : Asked → List Put
puts_first (Make count name) = source_put count name ∷ []
puts_first _ = []

-- the outcome of a job: what it puts first, and then what comes of what it reads
pub record IsOutcomeOf (old new : Work) (files : Option Files) (left : Option (List ℕ)) (job : Asked) (o : Outcome) : Type 0 where
  pub rest : Outcome
  pub comes : Reads files left (reading_of job) (IsDone old new job) rest
  pub told : o ≡ following (puts_first job) rest

-- words that are no job are answered by `usage`
abbrev pub MayBe : (old new : Work) → Option Files → (left : Option (List ℕ)) → Option Asked → Outcome → Type 0
MayBe old new files left None o = o ≡ answers answer.Usage
MayBe old new files left (Some job) o = IsOutcomeOf old new files left job o

-- the crew has done its work for the job between these, and nothing but where the job has threads run, and the answer is of their run
pub record IsOutcome (old new : Work) (files : Option Files) (left : Option (List ℕ)) (job : Option Asked) (o : Outcome) : Type 0 where
  pub is : MayBe old new files left job o
  pub idle : (RunsThreads job → IsOfRun o.answer → ⊥) → new ≡ old

-- the files that a job may have put before it stops so: a made source, and its log
abbrev pub PutsBefore : (old new : Work) → Option Asked → Stop → List Put → Type 0
PutsBefore old new (Some (Make count name)) s puts = IsPutInMaking old new count name s puts
PutsBefore old new _ s puts = puts ≡ []

-- the statuses with which the program ends
abbrev pub is_status : ℕ → Bool
is_status n = nat_le n 13
