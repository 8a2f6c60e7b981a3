-- The number by which an object's word shows its state, and the state that each number shows.
use Rattle.std.specs.Prelude.{ℕ, zero, suc, ◌+◌, ◌*◌, ◌/◌, ◌%◌}
use Rattle.sync_objects.specs.declared.kind.ObjKind.{ObjKind}
use Rattle.sync_objects.specs.declared.kind.ObjKind.TheVariants as kind
use Rattle.sync_objects.specs.States.{LockState, Free, HeldBy, CondState, Epoch, BarrierState, Waits, RwState, Shared, SlotState, Idle, Closed, Begun, Ended, Joined, Shut, Started, ThreadsState, Counts, HaltState, Running, Halted, Trapped, InputState, Position, OutputState, Open, StateOf}
use Rattle.sync_objects.specs.Words.{state_of}

-- 0 when free, else the number of the holding thread and one more
abbrev pub packed_lock : LockState → ℕ
packed_lock Free = 0
packed_lock (HeldBy thread) = thread + 1

-- the epoch as it is, of at most 32 bits
abbrev pub packed_cond : CondState → ℕ
packed_cond (Epoch epoch) = epoch

-- 5 bits of count, 5 bits of threads that have come, then the generation
abbrev pub packed_barrier : BarrierState → ℕ
packed_barrier (Waits count arrived generation) = count + 32 * arrived + 1024 * generation

-- 16 bits of readers, the lowest that of thread 0, then 0 or one more than the writer
abbrev pub packed_rw : RwState → ℕ
packed_rw (Shared readers writer) = readers + 65536 * packed_lock writer

-- 0 to 5 without a function, and from 6 on the started function
abbrev pub packed_slot : SlotState → ℕ
packed_slot Idle = 0
packed_slot Closed = 1
packed_slot Begun = 2
packed_slot Ended = 3
packed_slot Joined = 4
packed_slot Shut = 5
packed_slot (Started function) = function + 6

-- 5 bits of threads drawn so far, then the live ones
abbrev pub packed_threads : ThreadsState → ℕ
packed_threads (Counts drawn live) = drawn + 32 * live

-- 0 while the program runs, 1 after an end without a trap, 2 after a trap
abbrev pub packed_halt : HaltState → ℕ
packed_halt Running = 0
packed_halt Halted = 1
packed_halt Trapped = 2

-- how many bytes of the input were read
abbrev pub packed_input : InputState → ℕ
packed_input (Position position) = position

-- output has one state only
abbrev pub packed_output : OutputState → ℕ
packed_output Open = 0

-- the number of a state of this kind
abbrev pub packed : (k : ObjKind) → StateOf k → ℕ
packed kind.Mutex = packed_lock
packed kind.Cond = packed_cond
packed kind.Barrier = packed_barrier
packed kind.Rw = packed_rw
packed kind.Weak = packed_lock
packed kind.Slot = packed_slot
packed kind.Threads = packed_threads
packed kind.Halt = packed_halt
packed kind.Input = packed_input
packed kind.Output = packed_output

-- who holds a mutex or stripe: the thread one below the number
abbrev pub lock_of : ℕ → LockState
lock_of zero = Free
lock_of (suc thread) = HeldBy thread

-- each number is an epoch
abbrev pub cond_of : ℕ → CondState
cond_of n = Epoch n

-- a count and those that came are each below 32 here
abbrev pub barrier_of : ℕ → BarrierState
barrier_of n = Waits (n % 32) (n / 32 % 32) (n / 1024)

-- the low 16 bits are the readers
abbrev pub rw_of : ℕ → RwState
rw_of n = Shared (n % 65536) (lock_of (n / 65536))

-- each number from 6 on shows a started function
abbrev pub slot_of : ℕ → SlotState
slot_of zero = Idle
slot_of (suc zero) = Closed
slot_of (suc (suc zero)) = Begun
slot_of (suc (suc (suc zero))) = Ended
slot_of (suc (suc (suc (suc zero)))) = Joined
slot_of (suc (suc (suc (suc (suc zero))))) = Shut
slot_of (suc (suc (suc (suc (suc (suc function)))))) = Started function

-- the low 5 bits are those drawn, all others those that live
abbrev pub threads_of : ℕ → ThreadsState
threads_of n = Counts (n % 32) (n / 32)

-- a number above 2, which no sound word has, shows a trap too
abbrev pub halt_of : ℕ → HaltState
halt_of zero = Running
halt_of (suc zero) = Halted
halt_of (suc (suc n)) = Trapped

-- each number is a position in the input
abbrev pub input_of : ℕ → InputState
input_of n = Position n

-- any number shows the one state of the output
abbrev pub output_of : ℕ → OutputState
output_of n = Open

-- the state of this kind that a number shows
abbrev pub unpacked : (k : ObjKind) → ℕ → StateOf k
unpacked kind.Mutex = lock_of
unpacked kind.Cond = cond_of
unpacked kind.Barrier = barrier_of
unpacked kind.Rw = rw_of
unpacked kind.Weak = lock_of
unpacked kind.Slot = slot_of
unpacked kind.Threads = threads_of
unpacked kind.Halt = halt_of
unpacked kind.Input = input_of
unpacked kind.Output = output_of

-- the state that a word shows, as an object of this kind
abbrev pub shown : (k : ObjKind) → ℕ → StateOf k
shown k word = unpacked k (state_of word)
