-- What the state after the first entries of a log is taken as, and what a walk that goes on from a snapshot comes to.
use Rattle.std.specs.Prelude.{◌≡◌, ℕ, ◌+◌, ◌<◌, ◌≤◌, List, [], length, take, drop, ◌⊎◌, Some, slice_get}
use Rattle.sync_objects.specs.Setup.{SetupView}
use Rattle.sync_objects.specs.declared.entry.Entry.{Entry}
use Rattle.flow_code.specs.declared.code.Code.{Code}
use Rattle.flow_code.specs.Threads.{Thread}
use Rattle.thread_interpreter.specs.Parts.{frames_in, AreWords}
use Rattle.thread_interpreter.specs.declared.access.Access.{Access}
use Rattle.thread_interpreter.specs.declared.outcome.Ending.{Ending}
use Rattle.core_run.specs.Machine.{Told, start_state}
use Rattle.core_run.specs.Walks.{walk_of, out_of, IsRefusedAt, WalkFrom}
use Rattle.core_run.specs.declared.outcome.Walk.{Walk}
use Rattle.core_run.specs.declared.outcome.Walk.TheVariants as walk
use Rattle.run_theory.specs.Steps.{State}
use Rattle.snapshots.specs.Snapshots.{snapshot_of, resumed_state}
use Rattle.snapshots.specs.declared.snapshot.Snapshot.{Snapshot}
use Rattle.checkpoint.specs.Going.{no_reads, LacksCell, LacksNone}
use Rattle.checkpoint.specs.declared.outcome.Taken.{Taken}
use Rattle.checkpoint.specs.declared.outcome.Taken.TheVariants as taken
use Rattle.checkpoint.specs.declared.outcome.Resumed.{Resumed}
use Rattle.checkpoint.specs.declared.outcome.Resumed.TheVariants as resumed

-- ---- taking

-- the answers that a thread's frames keep have 64 bits
abbrev pub KeepsWords : Thread → Type 0
KeepsWords th = AreWords (frames_in th.phase th)

module _ (code : Code) (s : SetupView) where
  -- the state after the first k entries of a log, in which each answer that a frame keeps is a number of 64 bits
  pub record IsStateAfter (es : List Entry) (k : ℕ) (st : State Told) : Type 0 where
    pub within : k ≤ length es
    pub walked : walk_of code s (take k es) (start_state code s) ≡ Some st
    pub words : (t : ℕ) (told : Told) → slice_get st.threads t ≡ Some told → KeepsWords told.thread

  -- the entries are fewer than k, this is their number, and they have a walk
  pub record IsTooShort (es : List Entry) (k at : ℕ) : Type 0 where
    pub fewer : length es < k
    pub all : at ≡ length es
    pub last : State Told
    pub walked : walk_of code s es (start_state code s) ≡ Some last

  -- what taking the state after the first k entries comes to: its snapshot, or the position at which they are refused or end
  abbrev pub TakenIs : List Entry → ℕ → Taken → Type 0
  TakenIs es k (taken.State x) = (st : State Told) × IsStateAfter es k st × (x ≡ snapshot_of code s k st)
  TakenIs es k (taken.Wrong at) = IsRefusedAt code s (start_state code s) (take k es) at ⊎ IsTooShort es k at

  -- ---- going on

  -- the entries of a log that a snapshot has before it
  abbrev pub rest_of : Snapshot → List Entry → List Entry
  rest_of x es = drop x.at es

  -- what going on from a snapshot comes to: the walk of the rest, on which no thread comes to a cell that there isn't, or the
  -- first thread that does
  abbrev pub ResumedIs : Snapshot → List Entry → Resumed → Type 0
  ResumedIs x es (resumed.Walked w) = WalkFrom code s (resumed_state code s x) x.at (rest_of x es) no_reads w × LacksNone code s (resumed_state code s x) (rest_of x es)
  ResumedIs x es (resumed.BadCell t) = LacksCell code s (resumed_state code s x) (rest_of x es) t

  -- ---- the rest of a whole walk

  -- the walk of the rest of the entries, by what the whole walk comes to, where the first k entries lead to this state: it is
  -- done or trapped by the same trap, with what is printed from there on, or it is wrong at the same position
  abbrev pub IsRest : State Told → List Entry → Walk → Walk → Type 0
  IsRest st rest (walk.Done out reads ends) w = (r : List Access) × (e : List Ending) × (w ≡ walk.Done (out_of code s rest st) r e)
  IsRest st rest (walk.Trapped kind thread line out reads ends) w = (r : List Access) × (e : List Ending) × (w ≡ walk.Trapped kind thread line (out_of code s rest st) r e)
  IsRest st rest (walk.Wrong at) w = w ≡ walk.Wrong at
