-- Which cause each status has, on files and an input that are told.
use Rattle.std.specs.Prelude.{◌≡◌, ◌≢◌, ℕ, List, Option, Some, None, is_some, IsTrue}
use Rattle.command_line.specs.Answers.{status_of}
use Rattle.command_line.specs.Jobs.{Asked}
use Rattle.command_line.specs.Jobs.Asked.{Races, Weaken, Replay, Watch, Checkpoint, Resume}
use Rattle.command_line.specs.declared.answer.Answer.{Answer}
use Rattle.command_line.specs.declared.answer.Answer.TheVariants as answer
use Rattle.core_run.specs.Walks.{WalkIs}
use Rattle.thread_interpreter.specs.declared.access.Formula.{Formula}
use Rattle.core_run.specs.declared.outcome.Walk.{Walk}
use Rattle.flow_code.specs.declared.code.Code.{Code}
use Rattle.lock_sound.specs.Weakened.{Analysed}
use Rattle.job_outcomes.specs.Endings.{Outside}
use Rattle.order_log.specs.Log.{LogView}
use Rattle.rr_base.specs.Faults.{Rose}
use Rattle.rr_base.specs.Files.{Files}
use Rattle.job_outcomes.specs.declared.outcome.Outcome.{Outcome}
use Rattle.walk_answers.specs.Walking.{answer_of, formula_of, no_reads}
use Rattle.walk_checkpoints.specs.Telling.{GoesOn, TakesCheckpoint}
use Rattle.job_laws.specs.Asks.{AsksCrew, AsksInput}
use Rattle.job_laws.specs.Jobs.{UsesShelf}
use Rattle.job_laws.specs.Readings.{IsAccepted, Refuses, reading_of}
use Rattle.job_laws.specs.Sources.{IsFound}

-- ---- what it answers then

-- it tells how a walk of entries ends, which are recorded, or read. A checkpoint tells nothing of it
abbrev pub Walks : Asked → Type 0
Walks (Races source) = ⊥
Walks (Weaken source name) = ⊥
Walks (Checkpoint source log count name) = ⊥
Walks _ = Unit {0}

-- its entries come from a log, and one may be wrong
abbrev pub FollowsLog : Asked → Type 0
FollowsLog job = IsTrue (is_some (reading_of job).log)

-- it goes on from a checkpoint, which may be refused
abbrev pub GoesOnLog : Asked → Type 0
GoesOnLog job = IsTrue (is_some (reading_of job).checkpoint)

-- which of the walk's accesses are kept
abbrev pub kept_by : Asked → Formula
kept_by (Replay source log reads) = formula_of reads
kept_by (Watch source log formula) = formula
kept_by _ = no_reads

-- a listing is made; the walk of a recorded log takes all entries; that of a log which is read may be refused, too; and so may a
-- checkpoint, which is judged on the source's code
abbrev pub MayAnswer : Asked → Answer → Type 0
MayAnswer job (answer.Done out) = Unit {0}
MayAnswer job (answer.Trapped out kind thread line) = Walks job
MayAnswer job (answer.WrongEntry at) = FollowsLog job
MayAnswer job (answer.CheckpointRefused number place) = GoesOnLog job
MayAnswer job _ = ⊥

-- what is told of an accepted log on a code: the end of its walk; of the state after its first entries; or of the walk of the rest
-- from the state that these bytes hold
abbrev pub IsTold : Asked → LogView → (held : List ℕ) → Code → Answer → Type 0
IsTold (Checkpoint source log count name) view held code a = (o : Outcome) × TakesCheckpoint code view.setup view.entries count name o × (a ≡ o.answer)
IsTold (Resume source log name) view held code a = (o : Outcome) × GoesOn code view.setup view.entries held o × (a ≡ o.answer)
IsTold job view held code a = (w : Walk) × WalkIs code view.setup view.entries (kept_by job) w × (a ≡ answer_of w)

-- ---- causes

-- why the program may have ended with this exit status
pub data CauseOf (files : Files) (left : List ℕ) (job : Option Asked) (old new : Outside) (status : ℕ) : Type 0 where
  NoJob : job ≡ None → status ≡ 1 → CauseOf files left job old new status
  Refused : (asked : Asked) → job ≡ Some asked → (a : Answer) → Refuses (Some files) (Some left) (reading_of asked) a → status ≡ status_of a → CauseOf files left job old new status
  Answered : (asked : Asked) → job ≡ Some asked → IsAccepted (Some files) (Some left) (reading_of asked) → (a : Answer) → MayAnswer asked a → status ≡ status_of a → CauseOf files left job old new status
  InputFailed : AsksInput (Some files) job → Rose old.counts.input new.counts.input → status ≡ 7 → CauseOf files left job old new status
  OutputFailed : Rose old.out.faults new.out.faults → status ≡ 8 → CauseOf files left job old new status
  ShelfFailed : UsesShelf job → Rose old.counts.shelf new.counts.shelf → status ≡ 9 → CauseOf files left job old new status
  CrewFailed : AsksCrew (Some files) (Some left) job → Rose old.counts.crew new.counts.crew → status ≡ 10 → CauseOf files left job old new status
  LacksMemory : status ≡ 12 → CauseOf files left job old new status

-- no part of the outside failed, and memory did not run out
pub record WentWell (old new : Outside) (status : ℕ) : Type 0 where
  pub input : Rose old.counts.input new.counts.input → ⊥
  pub output : Rose old.out.faults new.out.faults → ⊥
  pub shelf : Rose old.counts.shelf new.counts.shelf → ⊥
  pub crew : Rose old.counts.crew new.counts.crew → ⊥
  pub memory : status ≢ 12

-- then the words, the files and the input decide, and for a log that is read its walk
pub record IsDecided (files : Files) (left : List ℕ) (job : Option Asked) (status : ℕ) : Type 0 where
  pub none : job ≡ None → status ≡ 1
  pub refused : (asked : Asked) → job ≡ Some asked → (a : Answer) → Refuses (Some files) (Some left) (reading_of asked) a → status ≡ status_of a
  pub accepted : (asked : Asked) → job ≡ Some asked → IsAccepted (Some files) (Some left) (reading_of asked) → (a : Answer) × MayAnswer asked a × (status ≡ status_of a)
  pub walked : (asked : Asked) → job ≡ Some asked → FollowsLog asked → (by : IsAccepted (Some files) (Some left) (reading_of asked)) → (on : Analysed) → IsFound by.os by.followed.profile on → (a : Answer) → IsTold asked by.followed by.held on.weak a → status ≡ status_of a
