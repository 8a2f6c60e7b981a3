-- The states of synchronisation objects, and what the table of operations asks of them and does to them.
use Rattle.std.specs.Prelude.{ℕ, ◌+◌, ◌-◌, ◌/◌, ◌%◌, ◌^◌, ◌==◌, ◌&&◌, ◌||◌, not, nat_lt, nat_le, Bool, true, false, if◌then◌else◌, ℤ, pos}
use Rattle.sync_objects.specs.declared.kind.ObjKind.{ObjKind}
use Rattle.sync_objects.specs.declared.kind.ObjKind.TheVariants as kind

-- a mutex, or a stripe of a weak lock
pub data LockState : Type 0 where
  Free : LockState
  HeldBy : (thread : ℕ) → LockState

-- nobody holds it, so it can be taken
abbrev pub is_free : LockState → Bool
is_free Free = true
is_free (HeldBy thread) = false

-- thread t is the owner, in the words of POSIX
abbrev pub is_held_by : ℕ → LockState → Bool
is_held_by t Free = false
is_held_by t (HeldBy thread) = thread == t

-- a condition: how often it was signalled
pub data CondState : Type 0 where
  Epoch : (epoch : ℕ) → CondState

-- a signal came since the waiter entered in epoch e, so it may wake
abbrev pub epoch_differs : ℕ → CondState → Bool
epoch_differs e (Epoch epoch) = not (epoch == e)

-- a signal and a broadcast alike: whoever waits may wake
abbrev pub signalled : CondState → CondState
signalled (Epoch epoch) = Epoch (epoch + 1)

-- what a waiter is told when it enters
abbrev pub the_epoch : CondState → ℤ
the_epoch (Epoch epoch) = pos epoch

-- a barrier: how many threads it waits for, how many of these have come, and how often all of them had come
pub data BarrierState : Type 0 where
  Waits : (count : ℕ) → (arrived : ℕ) → (generation : ℕ) → BarrierState

-- 1 to 16 threads can meet at a barrier, and only while none is there is their number set
abbrev pub may_count : ℕ → BarrierState → Bool
may_count n (Waits count arrived generation) = nat_le 1 n && nat_le n 16 && (arrived == 0)

-- `pthread_barrier_init` sets how many threads the barrier waits for
abbrev pub counting : ℕ → BarrierState → BarrierState
counting n (Waits count arrived generation) = Waits n arrived generation

-- `pthread_barrier_init` was not yet called for it
abbrev pub counts_none : BarrierState → Bool
counts_none (Waits count arrived generation) = count == 0

-- whoever comes now completes the barrier
abbrev pub is_last_to_come : BarrierState → Bool
is_last_to_come (Waits count arrived generation) = arrived + 1 == count

-- the generation is the greatest that there is
abbrev pub is_worn_out : BarrierState → Bool
is_worn_out (Waits count arrived generation) = generation == 2 ^ 22 - 1

-- the last thread opens the next generation, where none has come yet
abbrev pub all_came : BarrierState → BarrierState
all_came (Waits count arrived generation) = Waits count 0 (generation + 1)

-- a thread has come that isn't the last, and has to wait
abbrev pub one_more_came : BarrierState → BarrierState
one_more_came (Waits count arrived generation) = Waits count (arrived + 1) generation

-- all came since the waiter's generation g, so it may pass
abbrev pub generation_differs : ℕ → BarrierState → Bool
generation_differs g (Waits count arrived generation) = not (generation == g)

-- what a thread that waits is told when it comes
abbrev pub the_generation : BarrierState → ℤ
the_generation (Waits count arrived generation) = pos generation

-- a read-write lock: the threads that hold it for reading, thread t as 2 ^ t in a sum, and who holds it for writing
pub data RwState : Type 0 where
  Shared : (readers : ℕ) → (writer : LockState) → RwState

-- thread t holds the lock for reading
abbrev pub reads : ℕ → RwState → Bool
reads t (Shared readers writer) = readers / 2 ^ t % 2 == 1

-- thread t holds the lock for writing
abbrev pub writes : ℕ → RwState → Bool
writes t (Shared readers writer) = is_held_by t writer

-- thread t holds the lock one way or the other
abbrev pub holds : ℕ → RwState → Bool
holds t s = reads t s || writes t s

-- nobody holds it for writing, so it can be held for reading
abbrev pub has_no_writer : RwState → Bool
has_no_writer (Shared readers writer) = is_free writer

-- nobody holds it, so it can be held for writing
abbrev pub is_unheld : RwState → Bool
is_unheld (Shared readers writer) = (readers == 0) && is_free writer

-- thread t holds it for reading as well as those that do
abbrev pub read_too : ℕ → RwState → RwState
read_too t (Shared readers writer) = Shared (readers + 2 ^ t) writer

-- thread t holds it for writing
abbrev pub written_by : ℕ → RwState → RwState
written_by t (Shared readers writer) = Shared readers (HeldBy t)

-- thread t holds it no more
abbrev pub let_go_by : ℕ → RwState → RwState
let_go_by t (Shared readers writer) = Shared (if reads t (Shared readers writer) then readers - 2 ^ t else readers) (if is_held_by t writer then Free else writer)

-- a slot, which is the life of one thread: its function was started or the slot closed, the thread has begun, has
-- ended, was joined. A shut slot was first closed and then started, so its thread never runs
pub data SlotState : Type 0 where
  Idle : SlotState
  Closed : SlotState
  Begun : SlotState
  Ended : SlotState
  Joined : SlotState
  Shut : SlotState
  Started : (function : ℕ) → SlotState

-- no function was started in the slot, and it isn't closed
abbrev pub is_idle : SlotState → Bool
is_idle Idle = true
is_idle _ = false

-- closed before a function was started, so no thread can begin there
abbrev pub is_closed : SlotState → Bool
is_closed Closed = true
is_closed _ = false

-- its thread runs
abbrev pub is_begun : SlotState → Bool
is_begun Begun = true
is_begun _ = false

-- its thread is done, and can be joined once
abbrev pub is_ended : SlotState → Bool
is_ended Ended = true
is_ended _ = false

-- a second join of this thread is a misuse
abbrev pub is_joined : SlotState → Bool
is_joined Joined = true
is_joined _ = false

-- its thread has a function, and may begin
abbrev pub is_started : SlotState → Bool
is_started (Started function) = true
is_started _ = false

-- the number of the started function
abbrev pub the_function : SlotState → ℤ
the_function (Started function) = pos function
the_function _ = pos 0

-- how many threads were drawn so far, and how many of these are live
pub data ThreadsState : Type 0 where
  Counts : (drawn : ℕ) → (live : ℕ) → ThreadsState

-- a thread slot is left of the n that there are
abbrev pub has_drawn_below : ℕ → ThreadsState → Bool
has_drawn_below n (Counts drawn live) = nat_lt drawn n

-- all n thread slots are used, so `pthread_create` gets none
abbrev pub has_drawn : ℕ → ThreadsState → Bool
has_drawn n (Counts drawn live) = drawn == n

-- some thread has not left yet
abbrev pub has_live : ThreadsState → Bool
has_live (Counts drawn live) = nat_lt 0 live

-- a new thread counts as live before it begins
abbrev pub one_drawn : ThreadsState → ThreadsState
one_drawn (Counts drawn live) = Counts (drawn + 1) (live + 1)

-- a thread's slot stays drawn after its end
abbrev pub one_left : ThreadsState → ThreadsState
one_left (Counts drawn live) = Counts drawn (live - 1)

-- the number of the new thread, which is how many were drawn before it
abbrev pub the_drawn : ThreadsState → ℤ
the_drawn (Counts drawn live) = pos drawn

-- whether the whole program runs, or a thread has ended it, by a trap or without one
pub data HaltState : Type 0 where
  Running : HaltState
  Halted : HaltState
  Trapped : HaltState

-- no thread has ended the whole program
abbrev pub is_running : HaltState → Bool
is_running Running = true
is_running _ = false

-- ended without a trap, as it is when `main` returns
abbrev pub is_halted : HaltState → Bool
is_halted Halted = true
is_halted _ = false

-- ended by a trap in some thread
abbrev pub is_trapped : HaltState → Bool
is_trapped Trapped = true
is_trapped _ = false

-- the input: how many of its bytes were read
pub data InputState : Type 0 where
  Position : (position : ℕ) → InputState

-- not yet at the end of an input of so many bytes
abbrev pub has_left : ℕ → InputState → Bool
has_left len (Position position) = nat_lt position len

-- at the next byte of the input
abbrev pub one_read : InputState → InputState
one_read (Position position) = Position (position + 1)

-- the index of the byte that is read; at the end, the input's length
abbrev pub the_position : InputState → ℤ
the_position (Position position) = pos position

-- the output, which keeps nothing
pub data OutputState : Type 0 where
  Open : OutputState

-- the states of the objects of one kind
abbrev pub StateOf : ObjKind → Type 0
StateOf kind.Mutex = LockState
StateOf kind.Cond = CondState
StateOf kind.Barrier = BarrierState
StateOf kind.Rw = RwState
StateOf kind.Weak = LockState
StateOf kind.Slot = SlotState
StateOf kind.Threads = ThreadsState
StateOf kind.Halt = HaltState
StateOf kind.Input = InputState
StateOf kind.Output = OutputState
