-- Who holds a mutex, a stripe or a read-write lock, as its word tells, and who holds a mutex as the operations on it tell.
use Rattle.std.specs.Prelude.{◌≡◌, ℕ, zero, ℤ, pos, Bool, false, if◌then◌else◌, List, [], ◌∷◌, Option, Some, None, slice_get, slice_index}
use Rattle.sync_objects.specs.Setup.{SetupView}
use Rattle.sync_objects.specs.States.{LockState, Free, HeldBy, is_held_by, RwState, Shared, holds as holds_shared, writes}
use Rattle.sync_objects.specs.Packing.{lock_of, rw_of}
use Rattle.sync_objects.specs.Words.{state_of}
use Rattle.sync_objects.specs.declared.mode.Mode.{Mode}
use Rattle.sync_objects.specs.declared.mode.Mode.TheVariants.{Read, Write}
use Rattle.sync_objects.specs.declared.object.ObjId.{ObjId}
use Rattle.sync_objects.specs.declared.object.ObjId.TheVariants as object
use Rattle.sync_objects.specs.declared.operation.OpName.{OpName}
use Rattle.sync_objects.specs.declared.operation.OpName.TheVariants as name
use Rattle.flow_code.specs.declared.code.Code.{Code}
use Rattle.flow_code.specs.Next.{holds}
use Rattle.core_run.specs.Words.{cells_of, place_of}
use Rattle.core_run.specs.Machine.{Told, machine}
use Rattle.run_theory.specs.Labels.{Label}
use Rattle.run_theory.specs.Ordered.{Event, Did, event_of}
use Rattle.run_theory.specs.Same.{same_object}
use Rattle.run_theory.specs.Steps.{State, stepped}

-- the word of an object
abbrev pub word_of_object : Code → SetupView → ObjId → State Told → ℕ
word_of_object code s o st = slice_index st.words (place_of (cells_of code s) o)

-- who holds the mutex or the stripe, as its word tells
abbrev pub holder : Code → SetupView → ObjId → State Told → LockState
holder code s lock st = lock_of (state_of (word_of_object code s lock st))

-- its word names the thread
abbrev pub names : Code → SetupView → ObjId → ℕ → State Told → Bool
names code s lock t st = is_held_by t (holder code s lock st)

-- the state of a read-write lock, as its word shows it
abbrev pub shared : Code → SetupView → ObjId → State Told → RwState
shared code s lock st = rw_of (state_of (word_of_object code s lock st))

-- a thread that writes holds the lock in both ways, one that reads for reading alone
abbrev pub holds_as : Mode → ℕ → RwState → Bool
holds_as Write t x = writes t x
holds_as Read t x = holds_shared t x

-- the thread holds the lock in this way, as its word tells: of a mutex or a stripe there is one way only
abbrev pub holds_lock : Code → SetupView → ObjId → Mode → ℕ → State Told → Bool
holds_lock code s (object.Rw cell) mode t st = holds_as mode t (shared code s (object.Rw cell) st)
holds_lock code s lock mode t st = names code s lock t st

-- who holds the lock for writing has no reader beside it
abbrev pub IsExclusive : RwState → Type 0
IsExclusive (Shared readers Free) = Unit {0}
IsExclusive (Shared readers (HeldBy thread)) = readers ≡ 0

-- the thread holds the stripe, as its own state tells
abbrev pub holds_in : ℕ → ℕ → Option Told → Bool
holds_in lock stripe None = false
holds_in lock stripe (Some told) = holds told.thread.stripes lock stripe

-- the same of thread t in this state
abbrev pub holds_stripe : ℕ → ℕ → ℕ → State Told → Bool
holds_stripe lock stripe t st = holds_in lock stripe (slice_get st.threads t)

-- the holder of a mutex after an operation on it by thread t
abbrev pub held_after : OpName → ℤ → ℕ → LockState → LockState
held_after name.Lock answer t before = HeldBy t
held_after name.TryLock (pos zero) t before = HeldBy t
held_after name.Unlock (pos zero) t before = Free
held_after _ answer t before = before

-- the same after any event: those that aren't on this mutex leave it as it is
abbrev pub held_after_event : ObjId → LockState → Option Event → LockState
held_after_event o before (Some (Did t x word answer)) = if same_object x.entry.obj o then held_after x.entry.op answer t before else before
held_after_event o before _ = before

-- a run that can't go on leaves the holder as it is
abbrev pub held_on : (State Told → LockState → LockState) → Option (State Told) → LockState → LockState
held_on rest None before = before
held_on rest (Some st) before = rest st before

-- the holder of a mutex after the operations of a run, where this one held it before
abbrev pub held_along : Code → SetupView → ObjId → List Label → State Told → LockState → LockState
held_along code s o [] st before = before
held_along code s o (l ∷ ls) st before = held_on (held_along code s o ls) (stepped (machine code s) st l) (held_after_event o before (event_of (machine code s) st l))
