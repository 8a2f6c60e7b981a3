-- Calls of the library (POSIX.1-2017 threads; C99 7.19 and 7.20.3): the events of each, one after another, and its value. A call
-- is given the words of its arguments, how many of its events are made, and the last answer that it keeps.
use Rattle.std.specs.Prelude.{ℕ, zero, suc, ◌+◌, ◌%◌, ◌^◌, ◌<◌, ◌==◌, nat_lt, nat_le, ◌&&◌, Bool, true, false, not, if◌then◌else◌, ℤ, pos, negsuc, List, [], ◌∷◌, ◌++◌, length, Option, Some, None, slice_get, slice_index_or, Result, Ok, Err}
use Rattle.std.specs.Fmt.{signed_decimal}
use Rattle.sync_objects.specs.Setup.{SetupView}
use Rattle.sync_objects.specs.declared.object.ObjId.TheVariants as object
use Rattle.sync_objects.specs.declared.operation.Op.{Op}
use Rattle.sync_objects.specs.declared.operation.Op.TheVariants as op
use Rattle.rr_base.specs.declared.trap.Trap.{Trap}
use Rattle.rr_base.specs.declared.trap.Trap.TheVariants as trap
use Rattle.rr_base.specs.declared.layout.CellKind.{CellKind}
use Rattle.rr_base.specs.declared.layout.CellKind.TheVariants as kind
use Rattle.rr_base.specs.declared.layout.Site.{Site}
use Rattle.word_semantics.specs.declared.library_call.LibraryCall.{LibraryCall}
use Rattle.word_semantics.specs.declared.library_call.LibraryCall.TheVariants as call
use Rattle.word_semantics.specs.declared.library_call.Piece.{Piece}
use Rattle.word_semantics.specs.declared.library_call.Piece.TheVariants as piece
use Rattle.word_semantics.specs.declared.event.Due.{Due}
use Rattle.word_semantics.specs.declared.event.Due.TheVariants as due
use Rattle.word_semantics.specs.declared.event.Onward.{Onward}
use Rattle.word_semantics.specs.declared.event.Onward.TheVariants as onward
use Rattle.word_semantics.specs.Values.{number, word, truth}
use Rattle.word_semantics.specs.Pointers.{resolved}
use Rattle.word_semantics.specs.Cells.{argument_cell, result_cell}

-- what a call knows: the sites of its code, the setup, its thread, and how many bytes this has printed
pub record Caller : Type 0 where
  pub sites : List Site
  pub setup : SetupView
  pub thread : ℕ
  pub printed : ℕ

-- the word of argument k
abbrev pub argument : List ℕ → ℕ → ℕ
argument words k = slice_index_or words k 0

-- the number, or 0 where it isn't one below the bound
abbrev pub clipped : ℕ → ℤ → ℕ
clipped bound (pos n) = if nat_lt n bound then n else 0
clipped bound (negsuc n) = 0

-- a thread's number, an epoch, a generation, a function
abbrev pub slot_in : ℤ → ℕ
slot_in z = clipped 16 z

-- an epoch, a barrier's generation or a started function: below 2^32
abbrev pub count_in : ℤ → ℕ
count_in z = clipped (2 ^ 32) z

-- -2, by which an operation answers that its object was used against its rules
abbrev pub is_misuse : ℤ → Bool
is_misuse (pos n) = false
is_misuse (negsuc n) = n == 1

-- -1, by which a barrier answers the last thread to come
abbrev pub is_serial : ℤ → Bool
is_serial (pos n) = false
is_serial (negsuc n) = n == 0

-- what comes at the cell, or the trap that stands in its place
abbrev pub at_cell : Result ℕ Trap → (ℕ → Due) → Due
at_cell (Ok c) comes = comes c
at_cell (Err t) comes = due.Trap t

-- the cell of an argument that is a pointer
abbrev pub cell_of : Caller → List ℕ → ℕ → CellKind → Result ℕ Trap
cell_of w words k kind = resolved w.sites (argument words k) kind

-- what a format prints: its bytes, and each argument as a number in decimal or as one byte (C99 7.19.6.1)
abbrev pub printed_piece : List Piece → List ℕ → List ℕ
printed_piece [] words = []
printed_piece (piece.Byte b ∷ ps) words = b ∷ printed_piece ps words
printed_piece (piece.Number ∷ ps) [] = printed_piece ps []
printed_piece (piece.Number ∷ ps) (w ∷ ws) = signed_decimal (number w) ++ printed_piece ps ws
printed_piece (piece.Letter ∷ ps) [] = printed_piece ps []
printed_piece (piece.Letter ∷ ps) (w ∷ ws) = w % 256 ∷ printed_piece ps ws

-- the same piece by piece: what one prints where the next argument is this one or missing, and whether it takes it
abbrev pub text_of : Piece → Option ℕ → List ℕ
text_of (piece.Byte b) next = b ∷ []
text_of piece.Number None = []
text_of piece.Number (Some w) = signed_decimal (number w)
text_of piece.Letter None = []
text_of piece.Letter (Some w) = w % 256 ∷ []

-- conversions of a format use up an argument, plain bytes don't
abbrev pub takes_argument : Piece → Bool
takes_argument (piece.Byte b) = false
takes_argument piece.Number = true
takes_argument piece.Letter = true

-- the most bytes that a thread prints
abbrev pub most_printed : ℕ
most_printed = 2 ^ 24

-- the bytes that a call prints
abbrev pub piece_of : LibraryCall → List ℕ → List ℕ
piece_of (call.Print format) words = printed_piece format words
piece_of call.PutChar words = argument words 0 % 256 ∷ []
piece_of _ words = []

-- output is one operation, whose bytes count against the thread's 2^24
abbrev pub print_due : Caller → ℕ → Due
print_due w bytes = if nat_le (w.printed + bytes) most_printed then due.Operate op.Print object.Output else due.Trap trap.Limit

-- pthread_create: the thread draws a number; unless none is left, it hands over the argument, stores the number, and
-- starts the new thread
abbrev pub create_due : Caller → ℕ → List ℕ → ℕ → ℤ → Due
create_due w function words zero kept = at_cell (cell_of w words 0 kind.Whole) (λ c. due.Operate (op.Draw w.setup.slots) object.Threads)
create_due w function words (suc zero) kept = due.Store (argument_cell (slot_in kept)) (argument words 1)
create_due w function words (suc (suc zero)) kept = at_cell (cell_of w words 0 kind.Whole) (λ c. due.Store c (word kept))
create_due w function words (suc (suc (suc n))) kept = due.Operate (op.Start function) (object.Slot (slot_in kept))

-- the thread may be joined by this one, as far as its number tells
abbrev pub is_joinable : Caller → ℤ → Bool
is_joinable w (pos n) = nat_le 1 n && nat_lt n w.setup.slots && not (n == w.thread)
is_joinable w (negsuc n) = false

-- a wait for the thread's end; itself, `main` or no thread is a trap
abbrev pub join_thread_due : Caller → ℤ → Due
join_thread_due w n = if is_joinable w n then due.Operate op.Join (object.Slot (slot_in n)) else due.Trap trap.BadThread

-- pthread_join: it waits for the thread's end; where it is asked for the result, it loads and stores it
abbrev pub join_due : Caller → List ℕ → ℕ → ℤ → Due
join_due w words zero kept = if argument words 1 == 0 then join_thread_due w (number (argument words 0)) else at_cell (cell_of w words 1 kind.Pointer) (λ c. join_thread_due w (number (argument words 0)))
join_due w words (suc zero) kept = if is_misuse kept then due.Trap trap.BadThread else due.Load (result_cell (slot_in (number (argument words 0))))
join_due w words (suc (suc n)) kept = at_cell (cell_of w words 1 kind.Pointer) (λ c. due.Store c (word kept))

-- pthread_exit: it hands over the result, ends the thread's slot, and leaves the live threads
abbrev pub exit_due : Caller → ℕ → ℕ → Due
exit_due w value zero = due.Store (result_cell w.thread) value
exit_due w value (suc zero) = due.Operate op.End (object.Slot w.thread)
exit_due w value (suc (suc n)) = due.Operate op.Leave object.Threads

-- what is due after the only event of a call, which may have answered that it was a misuse
abbrev pub checked_due : Trap → ℤ → Due
checked_due misuse kept = if is_misuse kept then due.Trap misuse else due.Quiet

-- a call with one operation on a mutex, which may answer that it was a misuse
abbrev pub mutex_due : Caller → Op → List ℕ → ℕ → ℤ → Due
mutex_due w o words zero kept = at_cell (cell_of w words 0 kind.Mutex) (λ c. due.Operate o (object.Mutex c))
mutex_due w o words (suc n) kept = checked_due trap.MutexMisuse kept

-- pthread_mutex_trylock, whose value is its answer
abbrev pub try_due : Caller → List ℕ → ℕ → Due
try_due w words zero = at_cell (cell_of w words 0 kind.Mutex) (λ c. due.Operate op.TryLock (object.Mutex c))
try_due w words (suc n) = due.Quiet

-- pthread_cond_wait: the thread notes the epoch, unlocks the mutex, wakes in a later epoch, and locks the mutex again
abbrev pub wait_due_at : ℕ → ℕ → ℕ → ℤ → Due
wait_due_at c m zero kept = due.Operate op.CondEnter (object.Cond c)
wait_due_at c m (suc zero) kept = due.Operate op.Unlock (object.Mutex m)
wait_due_at c m (suc (suc zero)) kept = if is_misuse kept then due.Trap trap.MutexMisuse else due.Operate (op.CondWake (count_in kept)) (object.Cond c)
wait_due_at c m (suc (suc (suc n))) kept = due.Operate op.Lock (object.Mutex m)

-- `pthread_cond_wait` asks at each event for both of its cells
abbrev pub wait_due : Caller → List ℕ → ℕ → ℤ → Due
wait_due w words made kept = at_cell (cell_of w words 0 kind.Cond) (λ c. at_cell (cell_of w words 1 kind.Mutex) (λ m. wait_due_at c m made kept))

-- pthread_cond_signal and pthread_cond_broadcast
abbrev pub signal_due : Caller → List ℕ → Due
signal_due w words = at_cell (cell_of w words 0 kind.Cond) (λ c. due.Operate op.Signal (object.Cond c))

-- how many threads a barrier is to wait for, or 0 where the number can't be
abbrev pub barrier_count : ℤ → ℕ
barrier_count z = clipped 17 z

-- `pthread_barrier_init`: 1 to 16 threads, else the barrier is misused
abbrev pub barrier_init_due : Caller → List ℕ → ℕ → ℤ → Due
barrier_init_due w words zero kept = at_cell (cell_of w words 0 kind.Barrier) (λ c. due.Operate (op.BarrierInit (barrier_count (number (argument words 1)))) (object.Barrier c))
barrier_init_due w words (suc n) kept = checked_due trap.BarrierMisuse kept

-- pthread_barrier_wait: the thread arrives, and unless it is the last one to come it waits for the next generation
abbrev pub barrier_wait_due : Caller → List ℕ → ℕ → ℤ → Due
barrier_wait_due w words zero kept = at_cell (cell_of w words 0 kind.Barrier) (λ c. due.Operate op.Arrive (object.Barrier c))
barrier_wait_due w words (suc n) kept = if is_misuse kept then due.Trap trap.BarrierMisuse else if is_serial kept then due.Quiet else at_cell (cell_of w words 0 kind.Barrier) (λ c. due.Operate (op.Pass (count_in kept)) (object.Barrier c))

-- a call with one operation on a read-write lock, which gives 0 unless it misuses the lock
abbrev pub rwlock_due : Caller → Op → List ℕ → ℕ → ℤ → Due
rwlock_due w o words zero kept = at_cell (cell_of w words 0 kind.Rw) (λ c. due.Operate o (object.Rw c))
rwlock_due w o words (suc n) kept = checked_due trap.RwMisuse kept

-- a call without events that asks for an object of a kind
abbrev pub asks_for : Caller → List ℕ → CellKind → Due
asks_for w words kind = at_cell (cell_of w words 0 kind) (λ c. due.Quiet)

-- what comes next in a call
abbrev pub library_due : Caller → LibraryCall → List ℕ → ℕ → ℤ → Due
library_due w (call.Create function) words made kept = create_due w function words made kept
library_due w call.Join words made kept = join_due w words made kept
library_due w call.Exit words made kept = exit_due w (argument words 0) made
library_due w call.SelfNumber words made kept = due.Quiet
library_due w call.SameThread words made kept = due.Quiet
library_due w call.MutexInit words made kept = mutex_due w op.MutexInit words made kept
library_due w call.MutexLock words made kept = mutex_due w op.Lock words made kept
library_due w call.MutexUnlock words made kept = mutex_due w op.Unlock words made kept
library_due w call.MutexTryLock words made kept = try_due w words made
library_due w call.MutexDestroy words made kept = asks_for w words kind.Mutex
library_due w call.CondInit words made kept = asks_for w words kind.Cond
library_due w call.CondWait words made kept = wait_due w words made kept
library_due w call.CondSignal words made kept = signal_due w words
library_due w call.CondDestroy words made kept = asks_for w words kind.Cond
library_due w call.BarrierInit words made kept = barrier_init_due w words made kept
library_due w call.BarrierWait words made kept = barrier_wait_due w words made kept
library_due w call.BarrierDestroy words made kept = asks_for w words kind.Barrier
library_due w call.RwInit words made kept = rwlock_due w op.RwInit words made kept
library_due w call.RwRdLock words made kept = rwlock_due w op.RdLock words made kept
library_due w call.RwWrLock words made kept = rwlock_due w op.WrLock words made kept
library_due w call.RwUnlock words made kept = rwlock_due w op.RwUnlock words made kept
library_due w call.RwDestroy words made kept = asks_for w words kind.Rw
library_due w call.Free words made kept = due.Quiet
library_due w call.GetChar words made kept = due.Operate (op.GetChar (length w.setup.input)) object.Input
library_due w (call.Print format) words made kept = print_due w (length (printed_piece format words))
library_due w call.PutChar words made kept = print_due w 1

-- what an answer leads to

-- EAGAIN (POSIX errno.h): no thread is left to create
abbrev pub no_thread_left : ℕ
no_thread_left = 11

-- `pthread_create` gives 0 after four events, or EAGAIN after the first
abbrev pub create_onward : ℕ → ℤ → ℤ → Onward
create_onward zero kept (pos zero) = onward.Gives no_thread_left
create_onward zero kept answer = onward.Stays answer
create_onward (suc zero) kept answer = onward.Stays kept
create_onward (suc (suc zero)) kept answer = onward.Stays kept
create_onward (suc (suc (suc n))) kept answer = onward.Gives 0

-- `pthread_join` gives 0; where no result is asked for, after its first event
abbrev pub join_onward : Bool → ℕ → ℤ → Onward
join_onward asked zero answer = if is_misuse answer then onward.Stays answer else (if asked then onward.Stays answer else onward.Gives 0)
join_onward asked (suc zero) answer = onward.Stays answer
join_onward asked (suc (suc n)) answer = onward.Gives 0

-- `pthread_exit` never gives a value: the third event ends the thread
abbrev pub exit_onward : ℕ → ℤ → Onward
exit_onward zero kept = onward.Stays kept
exit_onward (suc zero) kept = onward.Stays kept
exit_onward (suc (suc n)) kept = onward.Ends

-- an operation that gives 0, unless it was a misuse
abbrev pub checked_onward : ℕ → ℤ → Onward
checked_onward zero answer = if is_misuse answer then onward.Stays answer else onward.Gives 0
checked_onward (suc n) answer = onward.Gives 0

-- `pthread_mutex_trylock` gives its answer: 0, or EBUSY (16)
abbrev pub try_onward : ℕ → ℤ → ℤ → Onward
try_onward zero kept answer = onward.Gives (word answer)
try_onward (suc n) kept answer = onward.Gives (word kept)

-- `pthread_cond_wait` keeps its epoch across the unlock, and gives 0 at last
abbrev pub wait_onward : ℕ → ℤ → ℤ → Onward
wait_onward zero kept answer = onward.Stays answer
wait_onward (suc zero) kept answer = if is_misuse answer then onward.Stays answer else onward.Stays kept
wait_onward (suc (suc zero)) kept answer = onward.Stays kept
wait_onward (suc (suc (suc n))) kept answer = onward.Gives 0

-- -1 (PTHREAD_BARRIER_SERIAL_THREAD) for the last to come, 0 for all others
abbrev pub barrier_wait_onward : ℕ → ℤ → ℤ → Onward
barrier_wait_onward zero kept answer = if is_serial answer then onward.Gives (word answer) else onward.Stays answer
barrier_wait_onward (suc n) kept answer = if is_serial kept then onward.Gives (word kept) else onward.Gives 0

-- the byte at this place of the input, or EOF (C99 7.19.7.6)
abbrev pub byte_in : Option ℕ → ℕ
byte_in None = word (negsuc 0)
byte_in (Some b) = b

-- what `getchar` gives: the input's next byte, or EOF (-1) at its end
abbrev pub character : List ℕ → ℤ → ℕ
character input (pos n) = byte_in (slice_get input n)
character input (negsuc n) = word (negsuc 0)

-- what the answer to the event of a call leads to; `printf` gives how many bytes it has printed, as a word
abbrev pub library_onward : Caller → LibraryCall → List ℕ → ℕ → ℤ → ℤ → Onward
library_onward w (call.Create function) words made kept answer = create_onward made kept answer
library_onward w call.Join words made kept answer = join_onward (not (argument words 1 == 0)) made answer
library_onward w call.Exit words made kept answer = exit_onward made kept
library_onward w call.SelfNumber words made kept answer = onward.Gives w.thread
library_onward w call.SameThread words made kept answer = onward.Gives (truth (argument words 0 == argument words 1))
library_onward w call.MutexInit words made kept answer = checked_onward made answer
library_onward w call.MutexLock words made kept answer = checked_onward made answer
library_onward w call.MutexUnlock words made kept answer = checked_onward made answer
library_onward w call.MutexTryLock words made kept answer = try_onward made kept answer
library_onward w call.CondWait words made kept answer = wait_onward made kept answer
library_onward w call.BarrierInit words made kept answer = checked_onward made answer
library_onward w call.BarrierWait words made kept answer = barrier_wait_onward made kept answer
library_onward w call.RwInit words made kept answer = checked_onward made answer
library_onward w call.RwRdLock words made kept answer = checked_onward made answer
library_onward w call.RwWrLock words made kept answer = checked_onward made answer
library_onward w call.RwUnlock words made kept answer = checked_onward made answer
library_onward w call.GetChar words made kept answer = onward.Gives (character w.setup.input answer)
library_onward w (call.Print format) words made kept answer = onward.Gives (length (printed_piece format words) % 2 ^ 64)
library_onward w call.PutChar words made kept answer = onward.Gives (argument words 0)
library_onward w _ words made kept answer = onward.Gives 0

-- a function with which a thread is started has a number that its slot's word can hold
abbrev pub IsSoundCall : LibraryCall → Type 0
IsSoundCall (call.Create function) = function < 2 ^ 20
IsSoundCall _ = Unit {0}
