-- The headline: what a recording and a replay write, where they come to a run.
use Rattle.std.specs.Prelude.{◌≡◌, ◌⊎◌, ℕ, List, [], ◌∷◌, ◌++◌, length, Option, Some}
use Rattle.command_line.specs.Answers.{status_of, text_of}
use Rattle.command_line.specs.Endings.{Sight}
use Rattle.command_line.specs.Jobs.{Asked, RecordAsked}
use Rattle.command_line.specs.Jobs.Asked.{Record, Replay}
use Rattle.core_run.specs.Walks.{WalkIs}
use Rattle.core_run.specs.declared.outcome.Walk.{Walk}
use Rattle.job_outcomes.specs.Puts.{ArePut, Put}
use Rattle.job_profiles.specs.Profiles.{named}
use Rattle.job_runs.specs.Recordings.{log_of, log_put, setup_of}
use Rattle.job_runs.specs.Works.{HasRun}
use Rattle.lock_sound.specs.Weakened.{Analysed}
use Rattle.replayer.specs.Replays.{entries_taken}
use Rattle.rr_base.specs.Streams.{Took}
use Rattle.sync_objects.specs.declared.entry.Entry.{Entry}
use Rattle.walk_answers.specs.Walking.{answer_of, formula_of, reads_put}
use Rattle.job_laws.specs.Moments.{Moment}
use Rattle.job_laws.specs.Readings.{IsAccepted, reading_of}
use Rattle.job_laws.specs.Recordings.{IsReadable}
use Rattle.job_laws.specs.Sources.{IsFound, IsSourceWalk, WalksAsSource}

-- the program ends with 0 where the run ended, with 3 where a thread trapped, and with 5 where an entry of the log is wrong
abbrev pub IsStatusOfRun : ℕ → Type 0
IsStatusOfRun status = (status ≡ 0) ⊎ ((status ≡ 3) ⊎ (status ≡ 5))

-- the walk is written: what it printed, then its trap or its wrong entry, if there is one; and the values that it read, into their
-- file, if one is named, after these files
pub record Writes (puts : List Put) (reads : Option (List ℕ)) (walk : Walk) (old new : Moment) (out_old out_new : Sight) (status : ℕ) : Type 0 where
  pub bytes : Took (text_of (answer_of walk)) out_old.held out_new.held
  pub files : ArePut (puts ++ reads_put reads walk) old.files new.files
  pub ends : status ≡ status_of (answer_of walk)

-- the source, the profile and the input are accepted. What is written is what comes of walking the weakened source alone in the
-- written log's order, which is a run of the source with all conflicting accesses ordered by logged operations. The log can be read.
-- The crew has run a job for each slot, with a turn for each entry or more
pub record Recorded (r : RecordAsked) (old new : Moment) (out_old out_new : Sight) (status : ℕ) : Type 0 where
  pub accepted : IsAccepted old.files old.left (reading_of (Record r))
  pub code : Analysed
  pub weakened : IsFound accepted.os (named accepted.given) code
  pub entries : List Entry
  pub walk : Walk
  pub alone : WalkIs code.weak (setup_of r accepted.read) entries (formula_of r.reads) walk
  pub written : Writes (log_put r (named accepted.given) accepted.read entries ∷ []) r.reads walk old new out_old out_new status
  pub is_run : IsSourceWalk accepted.os code.weak (setup_of r accepted.read) entries
  pub log : IsReadable (log_of r (named accepted.given) accepted.read entries)
  pub crew : HasRun r.slots (length entries) old.work new.work

-- the source and the log are accepted. What is written is exactly the walk of the log's entries, or the first entry at which that
-- walk is refused. Where all entries have a walk it is a run of the source, ordered so. The crew has run a job for each slot
pub record Replayed (source log : List ℕ) (reads : Option (List ℕ)) (old new : Moment) (out_old out_new : Sight) (status : ℕ) : Type 0 where
  pub accepted : IsAccepted old.files old.left (reading_of (Replay source log reads))
  pub code : Analysed
  pub weakened : IsFound accepted.os accepted.followed.profile code
  pub walk : Walk
  pub alone : WalkIs code.weak accepted.followed.setup accepted.followed.entries (formula_of reads) walk
  pub written : Writes [] reads walk old new out_old out_new status
  pub is_run : WalksAsSource accepted.os code.weak accepted.followed.setup accepted.followed.entries
  pub crew : HasRun accepted.followed.setup.slots (entries_taken accepted.followed.entries walk) old.work new.work

-- For every accepted source, profile, input and interleaving, the bytes and read values that `record` writes are those of walking the
-- weakened source alone in the written log's order, which is a run of the source with all conflicting accesses ordered by logged
-- operations; and `replay` of any log, in any interleaving, writes exactly its walk, or names the first entry at which that walk
-- is refused. Each other status tells of what was refused or failed.
pub record Headline (job : Option Asked) (old new : Moment) (out_old out_new : Sight) (status : ℕ) : Type 0 where
  pub recorded : (r : RecordAsked) → job ≡ Some (Record r) → IsStatusOfRun status → Recorded r old new out_old out_new status
  pub replayed : (source log : List ℕ) (reads : Option (List ℕ)) → job ≡ Some (Replay source log reads) → IsStatusOfRun status → Replayed source log reads old new out_old out_new status
