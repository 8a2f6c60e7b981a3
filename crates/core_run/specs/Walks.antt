-- The walk of a list of entries: one thread goes at a time, up to each entry in turn; and what it comes to.
use Rattle.std.specs.Prelude.{◌≡◌, ℕ, ◌+◌, ◌<◌, List, [], ◌∷◌, ◌++◌, length, take, drop, filter, ◌⊎◌, Option, Some, None, slice_get}
use Rattle.std.specs.List.{filter_map, flat_map}
use Rattle.sync_objects.specs.Setup.{SetupView}
use Rattle.sync_objects.specs.declared.entry.Entry.{Entry}
use Rattle.rr_base.specs.declared.trap.Trap.{Trap}
use Rattle.flow_code.specs.declared.code.Code.{Code}
use Rattle.thread_interpreter.specs.declared.access.Access.{Access}
use Rattle.thread_interpreter.specs.declared.access.Formula.{Formula}
use Rattle.thread_interpreter.specs.declared.outcome.Ending.{Ending}
use Rattle.core_run.specs.declared.outcome.Walk.{Walk}
use Rattle.core_run.specs.declared.outcome.Walk.TheVariants as walk
use Rattle.thread_interpreter.specs.Endings.{ending_of, trap_of}
use Rattle.thread_interpreter.specs.Formulas.{meets}
use Rattle.core_run.specs.Machine.{Told, machine, start_state}
use Rattle.run_theory.specs.Steps.{State, AllEnded}
use Rattle.run_theory.specs.Walk.{part}
use Rattle.run_theory.specs.Walk as solo

-- ---- what is kept of accesses

-- the most accesses that are kept of one thread
abbrev pub most_reads : ℕ
most_reads = 262144

-- the first accesses of a thread that meet the formula
abbrev pub kept_reads : Formula → Told → List Access
kept_reads f told = take most_reads (filter (meets f) told.accesses)

-- those of all threads, by thread
abbrev pub reads_of : Formula → State Told → List Access
reads_of f st = flat_map (kept_reads f) st.threads

-- ---- what is printed

-- nothing where the machine has no such thread
abbrev pub pieces_of : Option Told → List (List ℕ)
pieces_of None = []
pieces_of (Some told) = told.pieces

-- all pieces as one run of bytes
abbrev pub joined : List (List ℕ) → List ℕ
joined [] = []
joined (p ∷ ps) = p ++ joined ps

-- what the thread has printed from the one state to the other
abbrev pub printed_between : ℕ → State Told → State Told → List ℕ
printed_between t before after = joined (drop (length (pieces_of (slice_get before.threads t))) (pieces_of (slice_get after.threads t)))

-- ---- how threads have ended

-- a thread that has trapped, with the kind and the line of its trap
pub data Trapping : Type 0 where
  NoTrap : Trapping
  TrapOf : (thread : ℕ) → (kind : Trap) → (line : ℕ) → Trapping

-- the thread's own trap comes before those of later threads
abbrev pub trap_or : ℕ → Option (Trap × ℕ) → Trapping → Trapping
trap_or t None rest = rest
trap_or t (Some x) rest = TrapOf t x.0 x.1

-- the lowest of these threads, numbered from t on, that has trapped
abbrev pub first_trap : ℕ → List Told → Trapping
first_trap t [] = NoTrap
first_trap t (told ∷ tolds) = trap_or t (trap_of told.thread.phase) (first_trap (t + 1) tolds)

-- how those that have ended did so, by thread
abbrev pub ends_of : State Told → List Ending
ends_of st = filter_map (λ told. ending_of told.thread.phase) st.threads

-- ---- the walk

module _ (code : Code) (s : SetupView) where
  -- the state after the parts of all entries, if each of them is allowed
  abbrev pub walk_of : List Entry → State Told → Option (State Told)
  walk_of = solo.walk (machine code s)

  abbrev pub out_on : (State Told → List ℕ) → Entry → State Told → Option (State Told) → List ℕ
  out_on rest e st None = []
  out_on rest e st (Some st1) = printed_between e.thread st st1 ++ rest st1

  -- what is printed along the walk, in the order of the entries
  abbrev pub out_of : List Entry → State Told → List ℕ
  out_of [] st = []
  out_of (e ∷ es) st = out_on (out_of es) e st (part (machine code s) e st)

  -- all entries have a walk from the one state, which ends in the other with each thread ended
  pub record IsWhole (from : State Told) (es : List Entry) (st : State Told) : Type 0 where
    pub walked : walk_of es from ≡ Some st
    pub ended : AllEnded (machine code s) st

  -- the entries before the one at this position have a walk, and with it they have none
  pub record IsRefusedAt (from : State Told) (es : List Entry) (at : ℕ) : Type 0 where
    pub within : at < length es
    pub before : State Told
    pub front : walk_of (take at es) from ≡ Some before
    pub refused : walk_of (take (at + 1) es) from ≡ None

  -- all entries have a walk, and some thread has not ended in its last state
  pub record IsUnfinished (from : State Told) (es : List Entry) (at : ℕ) : Type 0 where
    pub all : at ≡ length es
    pub last : State Told
    pub walked : walk_of es from ≡ Some last
    pub open_end : AllEnded (machine code s) last → ⊥

  -- what is shown of a whole walk: its bytes, the accesses that meet the formula, and how the threads have ended
  pub record Shows (from : State Told) (es : List Entry) (f : Formula) (st : State Told) (out : List ℕ) (reads : List Access) (ends : List Ending) : Type 0 where
    pub whole : IsWhole from es st
    pub out_is : out ≡ out_of es from
    pub reads_are : reads ≡ reads_of f st
    pub ends_are : ends ≡ ends_of st

  -- what the walk of the entries comes to, from this state on, where so many entries of the log stand before them
  abbrev pub WalkFrom : State Told → ℕ → List Entry → Formula → Walk → Type 0
  WalkFrom from first es f (walk.Done out reads ends) = (st : State Told) × Shows from es f st out reads ends × (first_trap 0 st.threads ≡ NoTrap)
  WalkFrom from first es f (walk.Trapped kind thread line out reads ends) = (st : State Told) × Shows from es f st out reads ends × (first_trap 0 st.threads ≡ TrapOf thread kind line)
  WalkFrom from first es f (walk.Wrong at) = (k : ℕ) × (at ≡ first + k) × (IsRefusedAt from es k ⊎ IsUnfinished from es k)

  -- what the walk of a whole log comes to
  abbrev pub WalkIs : List Entry → Formula → Walk → Type 0
  WalkIs es f w = WalkFrom (start_state code s) 0 es f w
