-- What is repeated: a recording by its log, and the rest of a walk from its checkpoint.
use Rattle.std.specs.Prelude.{◌≡◌, ◌<◌, ◌≤◌, ℕ, List, [], drop, length, take, Option, Some, None}
use Rattle.std.specs.List.{AllByRecursion}
use Rattle.command_line.specs.Answers.{status_of, text_of}
use Rattle.command_line.specs.Endings.{Sight}
use Rattle.command_line.specs.Jobs.{RecordAsked}
use Rattle.command_line.specs.Jobs.Asked.{Checkpoint, Replay, Resume}
use Rattle.core_run.specs.Machine.{Told, start_state}
use Rattle.core_run.specs.Walks.{WalkIs, walk_of}
use Rattle.core_run.specs.declared.outcome.Walk.{Walk}
use Rattle.flow_code.specs.declared.code.Code.{Code}
use Rattle.job_outcomes.specs.Puts.{ArePut}
use Rattle.job_profiles.specs.Profiles.{named}
use Rattle.job_runs.specs.Recordings.{log_of}
use Rattle.lock_sound.specs.Weakened.{Analysed}
use Rattle.order_log.specs.Text.{log_text}
use Rattle.rr_base.specs.Files.{Files}
use Rattle.rr_base.specs.Streams.{Took}
use Rattle.run_theory.specs.Steps.{State}
use Rattle.sync_objects.specs.Setup.{SetupView}
use Rattle.sync_objects.specs.declared.entry.Entry.{Entry}
use Rattle.walk_answers.specs.Walking.{answer_of, no_reads}
use Rattle.walk_checkpoints.specs.Repeats.{told_from}
use Rattle.job_laws.specs.Causes.{WentWell}
use Rattle.job_laws.specs.Headline.{Recorded, Writes}
use Rattle.job_laws.specs.Moments.{EndsFor, Moment, outside_of}
use Rattle.job_laws.specs.Readings.{IsAccepted, with_log}
use Rattle.job_laws.specs.Sources.{IsFound}

-- ---- a recording

-- later files have the source that was recorded, and under the log's name a log that a replay takes: 512 MiB (536870912 bytes) at most
pub record AreKept (r : RecordAsked) (log : List ℕ) (files later : Files) : Type 0 where
  pub source : later r.source ≡ files r.source
  pub log_held : later r.log ≡ Some log
  pub fits : length log ≤ 536870912

-- where a recording has written a walk, a replay of its log with the same source and the same `--reads` writes that walk: the same
-- bytes, the same read values, and the same status; unless a part of the outside fails, or memory is wanting (12)
abbrev pub ReplayRepeats : Type 0
ReplayRepeats = (r : RecordAsked) (files later : Files) (old new at after : Moment) (first last opens closes : Sight) (status again : ℕ)
    → old.files ≡ Some files
    → (recorded : Recorded r old new first last status)
    → AllByRecursion (λ byte. byte < 256) recorded.accepted.read
    → at.files ≡ Some later
    → AreKept r (log_text (log_of r (named recorded.accepted.given) recorded.accepted.read recorded.entries)) files later
    → EndsFor (Some (Replay r.source r.log r.reads)) at after opens closes again
    → WentWell (outside_of at opens) (outside_of after closes) again
    → Writes [] r.reads recorded.walk at after opens closes again

-- ---- a checkpoint

-- later files have the source and the log, and under the checkpoint's name what these have there, which a replay takes: 512 MiB
-- (536870912 bytes) at most
pub record HaveCheckpoint (source log name : List ℕ) (files made later : Files) : Type 0 where
  pub same_source : later source ≡ files source
  pub same_log : later log ≡ files log
  pub bytes : List ℕ
  pub put : made name ≡ Some bytes
  pub held : later name ≡ Some bytes
  pub fits : length bytes ≤ 536870912

-- the source and the log are accepted, and this is the walk that a replay of the log writes
pub record IsReplayed (files : Files) (source log : List ℕ) (walk : Walk) : Type 0 where
  pub accepted : IsAccepted (Some files) None (with_log source log)
  pub code : Analysed
  pub weakened : IsFound accepted.os accepted.followed.profile code
  pub alone : WalkIs code.weak accepted.followed.setup accepted.followed.entries no_reads walk

-- the rest of the walk is written: what it prints after so many entries, then its trap or its wrong entry, if there is one; the status
-- is the walk's. No file is put
pub record WritesRest (code : Code) (s : SetupView) (entries : List Entry) (count : ℕ) (walk : Walk) (old new : Moment) (out_old out_new : Sight) (status : ℕ) : Type 0 where
  pub state : State Told
  pub first : walk_of code s (take count entries) (start_state code s) ≡ Some state
  pub bytes : Took (text_of (told_from code s (drop count entries) state walk)) out_old.held out_new.held
  pub files : ArePut [] old.files new.files
  pub ends : status ≡ status_of (answer_of walk)

-- where `checkpoint` has ended with 0, `replay --from` what it put, with the same source and the same log, writes the rest of the walk
-- that a replay of the log writes, and ends with its status: the checkpoint is never refused (13); unless a part of the outside fails,
-- or memory is wanting (12)
abbrev pub ResumeRepeats : Type 0
ResumeRepeats = (source log name : List ℕ) (count : ℕ) (files made later : Files) (old new at after : Moment) (first last opens closes : Sight) (again : ℕ) (walk : Walk)
    → old.files ≡ Some files
    → EndsFor (Some (Checkpoint source log count name)) old new first last 0
    → new.files ≡ Some made
    → (replay : IsReplayed files source log walk)
    → at.files ≡ Some later
    → HaveCheckpoint source log name files made later
    → EndsFor (Some (Resume source log name)) at after opens closes again
    → WentWell (outside_of at opens) (outside_of after closes) again
    → WritesRest replay.code.weak replay.accepted.followed.setup replay.accepted.followed.entries count walk at after opens closes again
