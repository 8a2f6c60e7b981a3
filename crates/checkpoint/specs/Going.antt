-- The walk of a stretch of entries from a state, with what the threads and words show after it.
use Rattle.std.specs.Prelude.{◌≡◌, ℕ, ◌+◌, ◌^◌, false, List, [], map, take, drop, Option, Some, None, slice_get}
use Rattle.sync_objects.specs.Setup.{SetupView}
use Rattle.sync_objects.specs.declared.entry.Entry.{Entry}
use Rattle.flow_code.specs.declared.code.Code.{Code}
use Rattle.flow_code.specs.Threads.{Thread}
use Rattle.thread_interpreter.specs.declared.access.Access.{Access}
use Rattle.thread_interpreter.specs.declared.access.Formula.{Formula}
use Rattle.thread_interpreter.specs.Flows.{Running}
use Rattle.core_run.specs.Machine.{Told}
use Rattle.core_run.specs.Outside.{IsOutside}
use Rattle.core_run.specs.Shown.{IsShown}
use Rattle.core_run.specs.Walks.{walk_of, out_of, IsRefusedAt}
use Rattle.run_theory.specs.Steps.{State}
use Rattle.checkpoint.specs.declared.outcome.Went.{Went}
use Rattle.checkpoint.specs.declared.outcome.Went.TheVariants as went

-- no access is asked for
abbrev pub no_reads : Formula
no_reads = record { loads = false; stores = false; thread = None; low = 1; high = 0; value = None }

-- the most entries of a log that is walked
abbrev pub few_walked : ℕ
few_walked = 2 ^ 31

-- a thread that has left no entries, accesses or printed pieces yet
abbrev pub fresh_told : Thread → Told
fresh_told th = record { thread = th; entries = []; accesses = []; pieces = [] }

-- the state in which these threads and words stand, where nothing is told of what was before
abbrev pub standing : List Running → List ℕ → State Told
standing flows words = record { words = words; threads = map (λ (r : Running). fresh_told r.kept.thread) flows }

module _ (code : Code) (s : SetupView) where
  -- on the way to some entry, to which those before it have a walk, its thread t comes to a cell that the machine doesn't have
  pub record LacksCell (from : State Told) (es : List Entry) (t : ℕ) : Type 0 where
    pub at : ℕ
    pub entry : Entry
    pub stands : slice_get es at ≡ Some entry
    pub thread : entry.thread ≡ t
    pub before : State Told
    pub front : walk_of code s (take at es) from ≡ Some before
    pub outside : IsOutside code s entry before

  -- no thread does
  abbrev pub LacksNone : State Told → List Entry → Type 0
  LacksNone from es = (t : ℕ) → LacksCell from es t → ⊥

  -- all entries have a walk from the one state, and this is shown of the state after it
  pub record IsAllWalked (from : State Told) (es : List Entry) (flows : List Running) (words : List ℕ) (reads : List (List Access)) (out : List ℕ) : Type 0 where
    pub last : State Told
    pub walked : walk_of code s es from ≡ Some last
    pub shown : IsShown no_reads flows words reads last
    pub out_is : out ≡ out_of code s es from
    pub within : LacksNone from es

  -- what the walk of the entries has come to, where so many of the log stand before them
  abbrev pub WentIs : State Told → ℕ → List Entry → List Running → List ℕ → List (List Access) → List ℕ → Went → Type 0
  WentIs from first es flows words reads out went.On = IsAllWalked from es flows words reads out
  WentIs from first es flows words reads out (went.Refused at) = (k : ℕ) × (at ≡ first + k) × IsRefusedAt code s from es k × LacksNone from es
  WentIs from first es flows words reads out (went.Outside at t) = (k : ℕ) × (at ≡ first + k) × IsRefusedAt code s from es k × LacksCell from es t
