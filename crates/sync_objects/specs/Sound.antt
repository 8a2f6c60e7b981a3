-- The words that an object of a kind can have, and the operations whose numbers are in range.
use Rattle.std.specs.Prelude.{◌≡◌, ℕ, ◌<◌, ◌≤◌, ◌^◌, max}
use Rattle.sync_objects.specs.declared.kind.ObjKind.{ObjKind}
use Rattle.sync_objects.specs.declared.kind.ObjKind.TheVariants as kind
use Rattle.sync_objects.specs.declared.operation.Op.{Op}
use Rattle.sync_objects.specs.declared.operation.Op.TheVariants as op
use Rattle.sync_objects.specs.States.{LockState, Free, HeldBy, BarrierState, Waits, RwState, Shared, SlotState, Started, ThreadsState, Counts, CondState, Epoch, InputState, Position, StateOf}
use Rattle.sync_objects.specs.Packing.{packed, shown}
use Rattle.sync_objects.specs.Words.{number_of, state_of}

-- who holds it is one of the 16 threads
abbrev pub IsSoundLock : LockState → Type 0
IsSoundLock Free = Unit {0}
IsSoundLock (HeldBy thread) = thread < 16

-- each signal was an operation, so an epoch is at most their number
abbrev pub IsSoundCond : ℕ → CondState → Type 0
IsSoundCond number (Epoch epoch) = epoch ≤ number

-- none have come, or fewer than the barrier waits for, and each generation took an operation
abbrev pub IsSoundBarrier : ℕ → BarrierState → Type 0
IsSoundBarrier number (Waits count arrived generation) =
    (count ≤ 16) × (arrived < max count 1) × (generation < 2 ^ 22) × (generation ≤ number)

-- who holds it, for reading or for writing, is among the 16 threads
abbrev pub IsSoundRw : RwState → Type 0
IsSoundRw (Shared readers writer) = (readers < 2 ^ 16) × IsSoundLock writer

-- a started function has a number below 2^20
abbrev pub IsSoundSlot : SlotState → Type 0
IsSoundSlot (Started function) = function < 2 ^ 20
IsSoundSlot _ = Unit {0}

-- thread 0 is always drawn, 16 are the most, and only drawn ones live
abbrev pub IsSoundThreads : ThreadsState → Type 0
IsSoundThreads (Counts drawn live) = (1 ≤ drawn) × (drawn ≤ 16) × (live ≤ drawn)

-- each byte that was read took an operation
abbrev pub IsSoundInput : ℕ → InputState → Type 0
IsSoundInput number (Position position) = position ≤ number

-- the state can be that of an object of this kind that had so many operations
abbrev pub IsSoundState : (k : ObjKind) → ℕ → StateOf k → Type 0
IsSoundState kind.Mutex number s = IsSoundLock s
IsSoundState kind.Cond number s = IsSoundCond number s
IsSoundState kind.Barrier number s = IsSoundBarrier number s
IsSoundState kind.Rw number s = IsSoundRw s
IsSoundState kind.Weak number s = IsSoundLock s
IsSoundState kind.Slot number s = IsSoundSlot s
IsSoundState kind.Threads number s = IsSoundThreads s
IsSoundState kind.Halt number s = Unit {0}
IsSoundState kind.Input number s = IsSoundInput number s
IsSoundState kind.Output number s = Unit {0}

-- the word shows a state of this kind, and that state can be
pub record IsSoundWord (k : ObjKind) (word : ℕ) : Type 0 where
  pub shows : state_of word ≡ packed k (shown k word)
  pub state : IsSoundState k (number_of word) (shown k word)

-- what the operation carries is in range: 1 to 16 slots, and a function's number below 2^20
abbrev pub IsInRange : Op → Type 0
IsInRange (op.Draw slots) = (1 ≤ slots) × (slots ≤ 16)
IsInRange (op.Start function) = function < 2 ^ 20
IsInRange _ = Unit {0}
