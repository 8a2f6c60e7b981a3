-- What is told of a checkpoint: the file of the state after the first entries of a log, and the walk of the rest from such a file.
use Rattle.std.specs.Prelude.{◌≡◌, refl, ℕ, List, [], ◌∷◌, length, Result, Ok, Err}
use Rattle.checkpoint.specs.Resuming.{ResumedIs, TakenIs}
use Rattle.checkpoint.specs.declared.outcome.Resumed.{Resumed}
use Rattle.checkpoint.specs.declared.outcome.Resumed.TheVariants as resumed
use Rattle.checkpoint.specs.declared.outcome.Taken.{Taken}
use Rattle.checkpoint.specs.declared.outcome.Taken.TheVariants as taken
use Rattle.command_line.specs.declared.answer.Answer.{Answer}
use Rattle.command_line.specs.declared.answer.Answer.TheVariants as answer
use Rattle.flow_code.specs.declared.code.Code.{Code}
use Rattle.job_outcomes.specs.Outcomes.{answers}
use Rattle.job_outcomes.specs.Steps.{Comes}
use Rattle.job_outcomes.specs.declared.outcome.Outcome.{Outcome}
use Rattle.snapshots.specs.Text.{snapshot_text}
use Rattle.snapshots.specs.declared.snapshot.Snapshot.{Snapshot}
use Rattle.snapshot_reader.specs.Reading.{IsAnswer}
use Rattle.snapshot_reader.specs.declared.fault.SnapshotFault.{SnapshotFault}
use Rattle.snapshot_reader.specs.declared.fault.SnapshotFault.TheVariants.{Refused, OutOfMemory}
use Rattle.sync_objects.specs.Setup.{SetupView}
use Rattle.sync_objects.specs.declared.entry.Entry.{Entry}
use Rattle.walk_answers.specs.Walking.{answer_of}

-- ---- reading

-- how a checkpoint is refused: it isn't the text of one, or not of a state of this code and this log
abbrev pub IsRefusal : SnapshotFault → Answer → Type 0
IsRefusal (Refused number line) a = a ≡ answer.CheckpointRefused number line
IsRefusal OutOfMemory a = ⊥

-- reading a checkpoint: its snapshot, or how it is refused
abbrev pub IsCheckpointIn : Code → SetupView → List Entry → (bytes : List ℕ) → Result Snapshot Answer → Type 0
IsCheckpointIn code s es bytes (Ok x) = IsAnswer code s (length es) bytes (Ok x)
IsCheckpointIn code s es bytes (Err a) = (fault : SnapshotFault) × IsAnswer code s (length es) bytes (Err fault) × IsRefusal fault a

-- ---- taking

-- the snapshot's text in a file of this name; nothing is told, not even a trap
abbrev pub checkpoint_put : (name : List ℕ) → Snapshot → Outcome
checkpoint_put name x = record { puts = record { name = name; content = snapshot_text x } ∷ []; answer = answer.Done [] }

-- that file; or the position at which the first entries are refused or end, and no file
abbrev pub taken_outcome : (name : List ℕ) → Taken → Outcome
taken_outcome name (taken.State x) = checkpoint_put name x
taken_outcome name (taken.Wrong at) = answers (answer.WrongEntry at)

-- the text of a snapshot that is taken is read back as that snapshot
abbrev pub IsReadBack : Code → SetupView → List Entry → Taken → Type 0
IsReadBack code s es (taken.State x) = IsCheckpointIn code s es (snapshot_text x) (Ok x)
IsReadBack code s es (taken.Wrong at) = Unit {0}

-- what comes of taking the state after the first k entries
pub record TakesCheckpoint (code : Code) (s : SetupView) (es : List Entry) (k : ℕ) (name : List ℕ) (o : Outcome) : Type 0 where
  pub found : Taken
  pub takes : TakenIs code s es k found
  pub read : IsReadBack code s es found
  pub told : o ≡ taken_outcome name found

-- ---- going on

-- what is told of the rest: the same as of any walk; or which thread came to a cell that there isn't
abbrev pub rest_answer : Resumed → Answer
rest_answer (resumed.Walked w) = answer_of w
rest_answer (resumed.BadCell t) = answer.CheckpointRefused 27 t

-- what comes of the walk of the rest from a snapshot
pub record WalksRest (code : Code) (s : SetupView) (es : List Entry) (x : Snapshot) (o : Outcome) : Type 0 where
  pub rest : Resumed
  pub walks : ResumedIs code s x es rest
  pub told : o ≡ answers (rest_answer rest)

-- what comes of going on from the checkpoint that bytes are
abbrev pub GoesOn : Code → SetupView → List Entry → (bytes : List ℕ) → Outcome → Type 0
GoesOn code s es bytes o = Comes (IsCheckpointIn code s es bytes) (WalksRest code s es) o

-- ---- laws

-- the first entries lead to one checkpoint
abbrev pub OneCheckpoint : Type 0
OneCheckpoint = (code : Code) (s : SetupView) (es : List Entry) (k : ℕ) (name : List ℕ) (o p : Outcome) → TakesCheckpoint code s es k name o → TakesCheckpoint code s es k name p → o ≡ p

-- one thing comes of going on from the same bytes by the same entries
abbrev pub OneRest : Type 0
OneRest = (code : Code) (s : SetupView) (es : List Entry) (bytes : List ℕ) (o p : Outcome) → GoesOn code s es bytes o → GoesOn code s es bytes p → o ≡ p
