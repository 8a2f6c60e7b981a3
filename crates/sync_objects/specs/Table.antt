-- What each operation does to its object's state, as a table (POSIX.1-2017 threads, in this project's profile). For an
-- operation by a thread there is a list of rows, and the first row that fits the state counts. Where none fits, the
-- operation isn't allowed there.
use Rattle.std.specs.Prelude.{ℕ, ◌&&◌, ◌||◌, Bool, true, if◌then◌else◌, ℤ, pos, negsuc, List, [], ◌∷◌}
use Rattle.sync_objects.specs.declared.operation.Op.{Op}
use Rattle.sync_objects.specs.declared.operation.Op.TheVariants as op
use Rattle.sync_objects.specs.Names.{name_of, kind_of}
use Rattle.sync_objects.specs.States.{Free, HeldBy, is_free, is_held_by, epoch_differs, signalled, the_epoch, may_count, counting, counts_none, is_last_to_come, is_worn_out, all_came, one_more_came, generation_differs, the_generation, holds, has_no_writer, is_unheld, read_too, written_by, let_go_by, Closed, Begun, Ended, Joined, Shut, Started, is_idle, is_closed, is_begun, is_ended, is_joined, is_started, the_function, has_drawn_below, has_drawn, has_live, one_drawn, one_left, the_drawn, Halted, Trapped, is_running, is_halted, is_trapped, has_left, one_read, the_position, StateOf}

-- a row: the states that it fits, the state after it, and its answer
pub data Row (S : Type 0) : Type 0 where
  row : (fits : S → Bool) → (after : S → S) → (answer : S → ℤ) → Row S

-- what a list of rows says of a state
pub data Move (S : Type 0) : Type 0 where
  NoRow : Move S
  Moves : (after : S) → (answer : ℤ) → Move S

-- the first row that fits
abbrev pub first_row : {S : Type 0} → List (Row S) → S → Move S
first_row [] s = NoRow
first_row (row fits after answer ∷ rows) s = if fits s then Moves (after s) (answer s) else first_row rows s

-- words for rows of any kind

-- in the last row of an operation: whatever the state, if none above fits
abbrev pub any : {S : Type 0} → S → Bool
any s = true

-- the operation leaves the state as it is, such as after a misuse
abbrev pub same : {S : Type 0} → S → S
same s = s

-- the state after it, whatever it was before
abbrev pub to : {S : Type 0} → S → S → S
to after s = after

-- an answer that doesn't depend on the state
abbrev pub says : {S : Type 0} → ℤ → S → ℤ
says answer s = answer

-- the answers: done, a misuse, EBUSY, and PTHREAD_BARRIER_SERIAL_THREAD

-- 0, which POSIX gives for success
abbrev pub done : ℤ
done = pos 0

-- -2: the program does what POSIX leaves undefined
abbrev pub misuse : ℤ
misuse = negsuc 1

-- 16, for a mutex that `pthread_mutex_trylock` finds held
abbrev pub busy : ℤ
busy = pos 16

-- -1, for the one thread that completes a barrier
abbrev pub serial : ℤ
serial = negsuc 0

-- the table: the rows of an operation by thread t, in order
abbrev pub rows : (o : Op) → (t : ℕ) → List (Row (StateOf (kind_of (name_of o))))
-- a mutex, at first free
rows op.Lock t =
    row is_free (to (HeldBy t)) (says done)
    ∷ row (is_held_by t) same (says misuse)
    ∷ []
rows op.TryLock t =
    row is_free (to (HeldBy t)) (says done)
    ∷ row any same (says busy)
    ∷ []
rows op.Unlock t =
    row (is_held_by t) (to Free) (says done)
    ∷ row any same (says misuse)
    ∷ []
rows op.MutexInit t =
    row is_free same (says done)
    ∷ row any same (says misuse)
    ∷ []
-- a condition, at first in epoch 0
rows op.CondEnter t = row any same the_epoch ∷ []
rows (op.CondWake epoch) t = row (epoch_differs epoch) same (says done) ∷ []
rows op.Signal t = row any signalled (says done) ∷ []
-- a barrier, at first without a count
rows (op.BarrierInit count) t =
    row (may_count count) (counting count) (says done)
    ∷ row any same (says misuse)
    ∷ []
rows op.Arrive t =
    row counts_none same (says misuse)
    ∷ row (λ b. is_last_to_come b && is_worn_out b) same (says misuse)
    ∷ row is_last_to_come all_came (says serial)
    ∷ row any one_more_came the_generation
    ∷ []
rows (op.Pass generation) t = row (generation_differs generation) same (says done) ∷ []
-- a read-write lock, which at first nobody holds
rows op.RdLock t =
    row (holds t) same (says misuse)
    ∷ row has_no_writer (read_too t) (says done)
    ∷ []
rows op.WrLock t =
    row (holds t) same (says misuse)
    ∷ row is_unheld (written_by t) (says done)
    ∷ []
rows op.RwUnlock t =
    row (holds t) (let_go_by t) (says done)
    ∷ row any same (says misuse)
    ∷ []
rows op.RwInit t =
    row is_unheld same (says done)
    ∷ row any same (says misuse)
    ∷ []
-- a stripe of a weak lock, at first free
rows op.Take t = row is_free (to (HeldBy t)) (says done) ∷ []
rows op.Retake t = row is_free (to (HeldBy t)) (says done) ∷ []
rows op.Give t = row (is_held_by t) (to Free) (says done) ∷ []
rows op.Revoke t = row (is_held_by t) (to Free) (says done) ∷ []
-- how many threads there are: at first one is drawn and live
rows (op.Draw slots) t =
    row (has_drawn_below slots) one_drawn the_drawn
    ∷ row (has_drawn slots) same (says done)
    ∷ []
-- a slot, at first idle, but the first one begun
rows (op.Start function) t =
    row is_idle (to (Started function)) (says done)
    ∷ row is_closed (to Shut) (says done)
    ∷ []
rows op.Begin t = row is_started (to Begun) the_function ∷ []
rows op.End t = row is_begun (to Ended) (says done) ∷ []
rows op.Join t =
    row is_ended (to Joined) (says done)
    ∷ row (λ s. is_idle s || is_joined s || is_closed s) same (says misuse)
    ∷ []
rows op.Close t = row is_idle (to Closed) (says done) ∷ []
rows op.Leave t = row has_live one_left (says done) ∷ []
-- the halt word, at first running
rows op.HaltAll t = row is_running (to Halted) (says done) ∷ []
rows op.TrapHere t = row is_running (to Trapped) (says done) ∷ []
rows op.Stop t = row (λ s. is_halted s || is_trapped s) same (says done) ∷ []
-- the input, at first at its begin
rows (op.GetChar len) t =
    row (has_left len) one_read the_position
    ∷ row any same the_position
    ∷ []
-- the output
rows op.Print t = row any same (says done) ∷ []
