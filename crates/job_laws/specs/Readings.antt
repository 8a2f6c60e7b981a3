-- What each job reads, and how that is refused.
use Rattle.std.specs.Prelude.{◌≡◌, ◌⊎◌, ℕ, Bool, true, false, List, [], Option, Some, None, Result, Ok, Err}
use Rattle.command_line.specs.Jobs.{Asked}
use Rattle.command_line.specs.Jobs.Asked.{Races, Weaken, Record, Replay, Profile, Watch, Chain, Checkpoint, Resume, Make}
use Rattle.command_line.specs.declared.answer.Answer.{Answer}
use Rattle.command_line.specs.declared.answer.Part.TheVariants as part
use Rattle.c_tree.specs.Tree.{Outer}
use Rattle.job_outcomes.specs.Outcomes.{answers}
use Rattle.job_outcomes.specs.Steps.{Comes, IsFile, IsInput}
use Rattle.job_outcomes.specs.declared.outcome.Outcome.{Outcome}
use Rattle.job_profiles.specs.Profiles.{IsProfile}
use Rattle.job_runs.specs.Logs.{IsLogIn}
use Rattle.lock_sound.specs.Weakened.{Analysed}
use Rattle.order_log.specs.Log.{LogView}
use Rattle.profiles.specs.declared.profile.Profile.{Profile as ProfileOf}
use Rattle.profiles.specs.declared.profile.Profile.TheVariants as profile
use Rattle.rr_base.specs.Files.{Files}
use Rattle.workload.specs.Program.{program_text}
use Rattle.job_laws.specs.Sources.{IsCodeFor, IsTree}

-- a source is in the file of this name, or made with so many functions
pub data SourceAsked : Type 0 where
  InFile : (name : List ℕ) → SourceAsked
  Made : (count : ℕ) → SourceAsked

-- what a job reads: its source; the profile, the log and the checkpoint of these names, if any; and the input, or none
pub record Reading : Type 0 where
  pub source : SourceAsked
  pub profile : Option (List ℕ)
  pub log : Option (List ℕ)
  pub checkpoint : Option (List ℕ)
  pub input : Bool

-- a source in a file and a profile
abbrev pub with_profile : (source : List ℕ) → (profile : Option (List ℕ)) → Reading
with_profile source profile = record { source = InFile source; profile = profile; log = None; checkpoint = None; input = false }

-- a source in a file and a log
abbrev pub with_log : (source log : List ℕ) → Reading
with_log source log = record { source = InFile source; profile = None; log = Some log; checkpoint = None; input = false }

-- .. and a checkpoint
abbrev pub with_checkpoint : (source log checkpoint : List ℕ) → Reading
with_checkpoint source log checkpoint = record { source = InFile source; profile = None; log = Some log; checkpoint = Some checkpoint; input = false }

-- what each job reads
abbrev pub reading_of : Asked → Reading
reading_of (Races source) = with_profile source None
reading_of (Weaken source name) = with_profile source name
reading_of (Record r) = record { source = InFile r.source; profile = r.profile; log = None; checkpoint = None; input = true }
reading_of (Replay source log reads) = with_log source log
reading_of (Profile source log name) = with_log source log
reading_of (Watch source log formula) = with_log source log
reading_of (Chain source log one other) = with_log source log
reading_of (Checkpoint source log count name) = with_log source log
reading_of (Resume source log name) = with_checkpoint source log name
reading_of (Make count name) = record { source = Made count; profile = None; log = None; checkpoint = None; input = false }

-- ---- the steps

-- the text of the source: a file has at most 1 MiB (1048576 bytes)
abbrev pub SourceIs : Option Files → SourceAsked → Result (List ℕ) Answer → Type 0
SourceIs files (InFile name) r = IsFile files 1048576 part.Source name r
SourceIs files (Made count) r = r ≡ Ok (program_text count)

-- the log in a file that was read, or the refusal of either
abbrev pub IsLogOf : (file : Result (List ℕ) Answer) → Result LogView Answer → Type 0
IsLogOf (Ok bytes) r = IsLogIn bytes r
IsLogOf (Err a) r = r ≡ Err a

-- a log file has at most 512 MiB (536870912 bytes)
abbrev pub IsLogFile : Option Files → (log : List ℕ) → Result LogView Answer → Type 0
IsLogFile files log r = (file : Result (List ℕ) Answer) × IsFile files 536870912 part.Log log file × IsLogOf file r

-- what stands for the log of a job that follows none: no entries
abbrev pub no_log : LogView
no_log = record { setup = record { slots = 0; cells = 0; limit = 0; input = [] }; profile = profile.All; entries = [] }

-- the log that is followed
abbrev pub LogIs : Option Files → Option (List ℕ) → Result LogView Answer → Type 0
LogIs files None r = r ≡ Ok no_log
LogIs files (Some log) r = IsLogFile files log r

-- a checkpoint file has at most 512 MiB (536870912 bytes); what they hold is judged once the source is compiled
abbrev pub IsCheckpointFile : Option Files → (checkpoint : List ℕ) → Result (List ℕ) Answer → Type 0
IsCheckpointFile files checkpoint r = IsFile files 536870912 part.Checkpoint checkpoint r

-- the bytes of the checkpoint; a job that goes on from none has none
abbrev pub CheckpointIs : Option Files → Option (List ℕ) → Result (List ℕ) Answer → Type 0
CheckpointIs files None r = r ≡ Ok []
CheckpointIs files (Some checkpoint) r = IsCheckpointFile files checkpoint r

-- the input has at most 1 MiB (1048576 bytes)
abbrev pub InputIs : (left : Option (List ℕ)) → Bool → Result (List ℕ) Answer → Type 0
InputIs left true r = IsInput left 1048576 part.Input r
InputIs left false r = r ≡ Ok []

-- ---- the steps in a row

-- what comes of all that is read, in the order in which a refusal is told: the source, the profile, the log, the checkpoint's bytes,
-- the source's tree, the input
abbrev pub Reads : Option Files → (left : Option (List ℕ)) → Reading → (ProfileOf → LogView → (held : List ℕ) → List Outer → (input : List ℕ) → Outcome → Type 0) → Outcome → Type 0
Reads files left reading Next o =
    Comes (SourceIs files reading.source) (λ text.
    Comes (IsProfile files reading.profile) (λ p.
    Comes (LogIs files reading.log) (λ log.
    Comes (CheckpointIs files reading.checkpoint) (λ held.
    Comes (IsTree text) (λ os.
    Comes (InputIs left reading.input) (Next p log held os)))))) o

-- what is read is refused by this answer: it comes to that, though nothing comes of what is accepted
abbrev pub Refuses : Option Files → (left : Option (List ℕ)) → Reading → Answer → Type 0
Refuses files left reading a = Reads files left reading (λ p log held os input o. ⊥) (answers a)

-- nothing of it is refused
pub record IsAccepted (files : Option Files) (left : Option (List ℕ)) (reading : Reading) : Type 0 where
  pub text : List ℕ
  pub source : SourceIs files reading.source (Ok text)
  pub given : ProfileOf
  pub profile : IsProfile files reading.profile (Ok given)
  pub followed : LogView
  pub log : LogIs files reading.log (Ok followed)
  pub held : List ℕ
  pub checkpoint : CheckpointIs files reading.checkpoint (Ok held)
  pub os : List Outer
  pub tree : IsTree text (Ok os)
  pub read : List ℕ
  pub input : InputIs left reading.input (Ok read)

-- ---- for private clauses: where no input is read

-- of a source
abbrev pub ReadsSource : Option Files → (source : List ℕ) → (List Outer → Outcome → Type 0) → Outcome → Type 0
ReadsSource files source Next o = Comes (IsFile files 1048576 part.Source source) (λ text. Comes (IsTree text) Next) o

-- of a source and a profile
abbrev pub ReadsProfile : Option Files → (source : List ℕ) → (profile : Option (List ℕ)) → (ProfileOf → List Outer → Outcome → Type 0) → Outcome → Type 0
ReadsProfile files source profile Next o =
    Comes (IsFile files 1048576 part.Source source) (λ text.
    Comes (IsProfile files profile) (λ p.
    Comes (IsTree text) (Next p))) o

-- of a source and a log
abbrev pub ReadsLog : Option Files → (source log : List ℕ) → (LogView → List Outer → Outcome → Type 0) → Outcome → Type 0
ReadsLog files source log Next o =
    Comes (IsFile files 1048576 part.Source source) (λ text.
    Comes (IsLogFile files log) (λ view.
    Comes (IsTree text) (Next view))) o

-- of a source, a log and a checkpoint
abbrev pub ReadsCheckpoint : Option Files → (source log checkpoint : List ℕ) → (LogView → (held : List ℕ) → List Outer → Outcome → Type 0) → Outcome → Type 0
ReadsCheckpoint files source log checkpoint Next o =
    Comes (IsFile files 1048576 part.Source source) (λ text.
    Comes (IsLogFile files log) (λ view.
    Comes (IsCheckpointFile files checkpoint) (λ held.
    Comes (IsTree text) (Next view held)))) o

-- the text of a source, and a log, by their names
abbrev pub AreRead : Option Files → (source log : List ℕ) → Result (List ℕ × LogView) Answer → Type 0
AreRead files source log (Ok read) = IsFile files 1048576 part.Source source (Ok read.0) × IsLogFile files log (Ok read.1)
AreRead files source log (Err a) = IsFile files 1048576 part.Source source (Err a) ⊎ ((text : List ℕ) × IsFile files 1048576 part.Source source (Ok text) × IsLogFile files log (Err a))

-- the code of the source for the log's profile, and the log
abbrev pub IsFollowed : Option Files → (source log : List ℕ) → Result (Analysed × LogView) Answer → Type 0
IsFollowed files source log (Ok found) = (text : List ℕ) × IsFile files 1048576 part.Source source (Ok text) × IsLogFile files log (Ok found.1) × IsCodeFor text found.1 found.0
IsFollowed files source log (Err a) = ReadsLog files source log (λ view os o. ⊥) (answers a)

-- .. and the bytes of a checkpoint
abbrev pub IsFollowedFrom : Option Files → (source log checkpoint : List ℕ) → Result (Analysed × LogView × List ℕ) Answer → Type 0
IsFollowedFrom files source log checkpoint (Ok found) = (text : List ℕ) × IsFile files 1048576 part.Source source (Ok text) × IsLogFile files log (Ok found.1) × IsCheckpointFile files checkpoint (Ok found.2) × IsCodeFor text found.1 found.0
IsFollowedFrom files source log checkpoint (Err a) = ReadsCheckpoint files source log checkpoint (λ view held os o. ⊥) (answers a)
