-- Calls of the library: what is due in each, and what the answer to it leads to.
use Rattle.std.proofs.Common.{◌≡◌, ℕ, zero, suc, ◌+◌, ◌≤◌, ◌==◌, not, Bool, true, false, if◌then◌else◌, List, length, Result, Ok, Err, refl, ap, nat_le, ℤ, pos, negsuc, arith}
use Rattle.std.proofs.lemmas.Bool.{leb-true}
use Rattle.sync_objects.specs.Setup.{IsWithinLimits}
use Rattle.sync_objects.specs.Names.{name_of, is_ending, Fits}
use Rattle.sync_objects.specs.Sound.{IsInRange}
use Rattle.sync_objects.specs.declared.object.ObjId.{ObjId}
use Rattle.sync_objects.specs.declared.object.ObjId.TheVariants as object
use Rattle.sync_objects.specs.declared.operation.Op.{Op}
use Rattle.sync_objects.specs.declared.operation.Op.TheVariants as op
use Rattle.sync_objects.specs.declared.operation.OpName.{OpName}
use Rattle.sync_objects.specs.declared.operation.OpName.TheVariants as name
use Rattle.rr_base.specs.declared.trap.Trap.{Trap}
use Rattle.rr_base.specs.declared.trap.Trap.TheVariants as trap
use Rattle.rr_base.specs.declared.layout.CellKind.{CellKind}
use Rattle.rr_base.specs.declared.layout.CellKind.TheVariants as kind
use Rattle.word_semantics.specs.declared.library_call.LibraryCall.{LibraryCall}
use Rattle.word_semantics.specs.declared.library_call.LibraryCall.TheVariants as call
use Rattle.word_semantics.specs.declared.event.Due.{Due}
use Rattle.word_semantics.specs.declared.event.Due.TheVariants as due
use Rattle.word_semantics.specs.declared.event.Onward.{Onward}
use Rattle.word_semantics.specs.declared.event.Onward.TheVariants as onward
use Rattle.word_semantics.specs.Values.{number, word}
use Rattle.word_semantics.specs.Library.{IsSoundCall}
use Rattle.word_semantics.specs.Library.{Caller, argument, slot_in, count_in, is_misuse, is_serial, at_cell, cell_of, printed_piece, piece_of, most_printed, print_due, create_due, is_joinable, join_thread_due, join_due, exit_due, mutex_due, try_due, wait_due_at, wait_due, barrier_count, barrier_init_due, barrier_wait_due, rwlock_due, asks_for, library_due, create_onward, join_onward, checked_onward, wait_onward, barrier_wait_onward, library_onward}

-- what holds of both parts of a choice, or at each cell and of a trap, holds of what is due

if_each : {A : Type 0} (P : A → Type 0) (b : Bool) (x y : A) → (b ≡ true → P x) → P y → P (if b then x else y)
if_each P true x y f g = f refl
if_each P false x y f g = g

at_each : (P : Due → Type 0) (r : Result ℕ Trap) (comes : ℕ → Due) → ((c : ℕ) → P (comes c)) → ((kind : Trap) → P (due.Trap kind)) → P (at_cell r comes)
at_each P (Ok c) comes f g = f c
at_each P (Err t) comes f g = g t

-- the operations that are made of a thread by others
abbrev pub is_from_outside : OpName → Bool
is_from_outside name.Revoke = true
is_from_outside name.Stop = true
is_from_outside name.Close = true
is_from_outside _ = false

-- an operation that takes a stripe again
abbrev pub is_retake : OpName → Bool
is_retake name.Retake = true
is_retake _ = false

-- an operation that a code asks for fits its object, takes no stripe again, and is none that others make of the thread
pub record IsAsked (o : Op) (obj : ObjId) : Type 0 where
  pub fits : Fits (name_of o) obj
  pub own : is_from_outside (name_of o) ≡ false
  pub first : is_retake (name_of o) ≡ false

-- the answer leads to a further event of the call, or to its value
abbrev pub GoesOn : ℕ → Onward → Type 0
GoesOn made (onward.Stays kept) = made ≤ 2
GoesOn made (onward.Gives w) = Unit {0}
GoesOn made onward.Ends = ⊥

module _ (w : Caller) (c : LibraryCall) (words : List ℕ) (made : ℕ) (kept : ℤ) where
  -- a call that has no event prints nothing, and gives a value that doesn't depend on an answer
  pub record IsWithoutEvents : Type 0 where
    pub prints_nothing : length (piece_of c words) ≡ 0
    pub value : ℕ
    pub gives : (answer : ℤ) → library_onward w c words made kept answer ≡ onward.Gives value

  -- what it prints has room, and its thread goes on
  pub record Continues (answer : ℤ) : Type 0 where
    pub prints : w.printed ≤ most_printed → w.printed + length (piece_of c words) ≤ most_printed
    pub goes_on : GoesOn made (library_onward w c words made kept answer)

  -- the slot has ended, and the live threads are left next
  pub record EndsSlot (answer : ℤ) : Type 0 where
    pub prints_nothing : length (piece_of c words) ≡ 0
    pub first : made ≤ 2
    pub kept_next : ℤ
    pub stays : library_onward w c words made kept answer ≡ onward.Stays kept_next
    pub leaves_next : (v : Caller) (k : ℤ) → library_due v c words (made + 1) k ≡ due.Operate op.Leave object.Threads

  -- the live threads are left, and the thread is over
  pub record LeavesAll (answer : ℤ) : Type 0 where
    pub prints_nothing : length (piece_of c words) ≡ 0
    pub ends : library_onward w c words made kept answer ≡ onward.Ends

  -- an operation that isn't an ending one goes on; the ending ones are the last two of a thread
  pub data CallOperates (answer : ℤ) (o : Op) : Type 0 where
    goes : is_ending (name_of o) ≡ false → Continues answer → CallOperates answer o
    ends_slot : o ≡ op.End → EndsSlot answer → CallOperates answer o
    leaves_all : o ≡ op.Leave → LeavesAll answer → CallOperates answer o

  -- what is due in a call, with what becomes of it
  abbrev pub CallGoes : ℤ → Due → Type 0
  CallGoes answer due.Nothing = ⊥
  CallGoes answer due.Quiet = IsWithoutEvents
  CallGoes answer (due.Load cell) = Continues answer
  CallGoes answer (due.Store cell v) = Continues answer
  CallGoes answer due.Mark = ⊥
  CallGoes answer (due.Operate o obj) = IsAsked o obj × (IsWithinLimits w.setup → IsSoundCall c → IsInRange o) × CallOperates answer o
  CallGoes answer (due.Trap kind) = Unit {0}

asked : (o : Op) (obj : ObjId) → Fits (name_of o) obj → is_from_outside (name_of o) ≡ false → is_retake (name_of o) ≡ false → IsAsked o obj
asked o obj f g h = record { fits = f; own = g; first = h }

silent : (w : Caller) (c : LibraryCall) (words : List ℕ) (made : ℕ) (kept answer : ℤ) → length (piece_of c words) ≡ 0 → GoesOn made (library_onward w c words made kept answer) → Continues w c words made kept answer
silent w c words made kept answer p g = record { prints = λ h. omega arith; goes_on = g }

create_goes_on : (made : ℕ) (kept answer : ℤ) → GoesOn made (create_onward made kept answer)
create_goes_on zero kept (pos zero) = tt
create_goes_on zero kept (pos (suc n)) = omega arith
create_goes_on zero kept (negsuc n) = omega arith
create_goes_on (suc zero) kept answer = omega arith
create_goes_on (suc (suc zero)) kept answer = omega arith
create_goes_on (suc (suc (suc n))) kept answer = tt

create_goes : (w : Caller) (function : ℕ) (words : List ℕ) (made : ℕ) (kept answer : ℤ) → CallGoes w (call.Create function) words made kept answer (create_due w function words made kept)
create_goes w function words zero kept answer =
    at_each (CallGoes w (call.Create function) words zero kept answer) (cell_of w words 0 kind.Whole) (λ c. due.Operate (op.Draw w.setup.slots) object.Threads)
    (λ c. (asked (op.Draw w.setup.slots) object.Threads refl refl refl, (λ l f. (l.some_slot, l.few_slots)), goes refl (silent w (call.Create function) words zero kept answer refl (create_goes_on zero kept answer))))
    (λ k. tt)
create_goes w function words (suc zero) kept answer = silent w (call.Create function) words 1 kept answer refl (create_goes_on 1 kept answer)
create_goes w function words (suc (suc zero)) kept answer =
    at_each (CallGoes w (call.Create function) words 2 kept answer) (cell_of w words 0 kind.Whole) (λ c. due.Store c _)
    (λ c. silent w (call.Create function) words 2 kept answer refl (create_goes_on 2 kept answer))
    (λ k. tt)
create_goes w function words (suc (suc (suc n))) kept answer =
    (asked (op.Start function) (object.Slot (slot_in kept)) refl refl refl, (λ l f. f), goes refl (silent w (call.Create function) words (suc (suc (suc n))) kept answer refl tt))

join_goes_on : (b : Bool) (made : ℕ) (answer : ℤ) → GoesOn made (join_onward b made answer)
join_goes_on true zero answer = if_each (GoesOn zero) (is_misuse answer) (onward.Stays answer) (onward.Stays answer) (λ e. omega arith) (omega arith)
join_goes_on false zero answer = if_each (GoesOn zero) (is_misuse answer) (onward.Stays answer) (onward.Gives 0) (λ e. omega arith) tt
join_goes_on b (suc zero) answer = omega arith
join_goes_on b (suc (suc n)) answer = tt

join_continues : (w : Caller) (words : List ℕ) (made : ℕ) (kept answer : ℤ) → Continues w call.Join words made kept answer
join_continues w words made kept answer = silent w call.Join words made kept answer refl (join_goes_on (not (argument words 1 == 0)) made answer)

join_thread_goes : (w : Caller) (words : List ℕ) (kept answer n : ℤ) → CallGoes w call.Join words 0 kept answer (join_thread_due w n)
join_thread_goes w words kept answer n =
    if_each (CallGoes w call.Join words 0 kept answer) (is_joinable w n) (due.Operate op.Join (object.Slot (slot_in n))) (due.Trap trap.BadThread)
    (λ e. (asked op.Join (object.Slot (slot_in n)) refl refl refl, (λ l f. tt), goes refl (join_continues w words 0 kept answer)))
    tt

join_goes : (w : Caller) (words : List ℕ) (made : ℕ) (kept answer : ℤ) → CallGoes w call.Join words made kept answer (join_due w words made kept)
join_goes w words zero kept answer =
    if_each (CallGoes w call.Join words zero kept answer) (argument words 1 == 0) (join_thread_due w (number (argument words 0))) (at_cell (cell_of w words 1 kind.Pointer) (λ c. join_thread_due w (number (argument words 0))))
    (λ e. join_thread_goes w words kept answer (number (argument words 0)))
    (at_each (CallGoes w call.Join words zero kept answer) (cell_of w words 1 kind.Pointer) (λ c. join_thread_due w (number (argument words 0)))
    (λ c. join_thread_goes w words kept answer (number (argument words 0)))
    (λ k. tt))
join_goes w words (suc zero) kept answer =
    if_each (CallGoes w call.Join words 1 kept answer) (is_misuse kept) (due.Trap trap.BadThread) (due.Load _)
    (λ e. tt)
    (join_continues w words 1 kept answer)
join_goes w words (suc (suc n)) kept answer =
    at_each (CallGoes w call.Join words (suc (suc n)) kept answer) (cell_of w words 1 kind.Pointer) (λ c. due.Store c _)
    (λ c. join_continues w words (suc (suc n)) kept answer)
    (λ k. tt)

exit_goes : (w : Caller) (words : List ℕ) (made : ℕ) (kept answer : ℤ) → CallGoes w call.Exit words made kept answer (exit_due w (argument words 0) made)
exit_goes w words zero kept answer = silent w call.Exit words zero kept answer refl (omega arith)
exit_goes w words (suc zero) kept answer =
    (asked op.End (object.Slot w.thread) refl refl refl, (λ l f. tt), ends_slot refl (record { prints_nothing = refl; first = omega arith; kept_next = kept; stays = refl; leaves_next = λ v k. refl }))
exit_goes w words (suc (suc n)) kept answer =
    (asked op.Leave object.Threads refl refl refl, (λ l f. tt), leaves_all refl (record { prints_nothing = refl; ends = refl }))

-- a call that gives 0 without an event
gives_zero : (w : Caller) (c : LibraryCall) (words : List ℕ) (made : ℕ) (kept : ℤ) → length (piece_of c words) ≡ 0 → ((answer : ℤ) → library_onward w c words made kept answer ≡ onward.Gives 0) → IsWithoutEvents w c words made kept
gives_zero w c words made kept p g = record { prints_nothing = p; value = 0; gives = g }

checked_goes_on : (made : ℕ) (answer : ℤ) → GoesOn made (checked_onward made answer)
checked_goes_on (suc n) answer = tt
checked_goes_on zero answer = if_each (GoesOn 0) (is_misuse answer) (onward.Stays answer) (onward.Gives 0) (λ e. omega arith) tt

-- a call with one operation on a mutex
mutex_goes : (w : Caller) (c : LibraryCall) (o : Op) (words : List ℕ) (made : ℕ) (kept answer : ℤ) → ((cell : ℕ) → IsAsked o (object.Mutex cell)) → (IsWithinLimits w.setup → IsSoundCall c → IsInRange o) → is_ending (name_of o) ≡ false → Continues w c words made kept answer → ((n : ℕ) → IsWithoutEvents w c words (suc n) kept) →
    CallGoes w c words made kept answer (mutex_due w o words made kept)
mutex_goes w c o words zero kept answer a r n h q =
    at_each (CallGoes w c words zero kept answer) (cell_of w words 0 kind.Mutex) (λ cell. due.Operate o (object.Mutex cell)) (λ cell. (a cell, r, goes n h)) (λ k. tt)
mutex_goes w c o words (suc n) kept answer a r e h q =
    if_each (CallGoes w c words (suc n) kept answer) (is_misuse kept) (due.Trap trap.MutexMisuse) due.Quiet (λ misuse. tt) (q n)

-- the same on a read-write lock
rwlock_goes : (w : Caller) (c : LibraryCall) (o : Op) (words : List ℕ) (made : ℕ) (kept answer : ℤ) → ((cell : ℕ) → IsAsked o (object.Rw cell)) → (IsWithinLimits w.setup → IsSoundCall c → IsInRange o) → is_ending (name_of o) ≡ false → Continues w c words made kept answer → ((n : ℕ) → IsWithoutEvents w c words (suc n) kept) →
    CallGoes w c words made kept answer (rwlock_due w o words made kept)
rwlock_goes w c o words zero kept answer a r n h q =
    at_each (CallGoes w c words zero kept answer) (cell_of w words 0 kind.Rw) (λ cell. due.Operate o (object.Rw cell)) (λ cell. (a cell, r, goes n h)) (λ k. tt)
rwlock_goes w c o words (suc n) kept answer a r e h q =
    if_each (CallGoes w c words (suc n) kept answer) (is_misuse kept) (due.Trap trap.RwMisuse) due.Quiet (λ misuse. tt) (q n)

try_goes : (w : Caller) (words : List ℕ) (made : ℕ) (kept answer : ℤ) → CallGoes w call.MutexTryLock words made kept answer (try_due w words made)
try_goes w words zero kept answer =
    at_each (CallGoes w call.MutexTryLock words zero kept answer) (cell_of w words 0 kind.Mutex) (λ cell. due.Operate op.TryLock (object.Mutex cell))
    (λ cell. (asked op.TryLock (object.Mutex cell) refl refl refl, (λ l f. tt), goes refl (silent w call.MutexTryLock words zero kept answer refl tt)))
    (λ k. tt)
try_goes w words (suc n) kept answer = record { prints_nothing = refl; value = word kept; gives = λ a. refl }

wait_goes_on : (made : ℕ) (kept answer : ℤ) → GoesOn made (wait_onward made kept answer)
wait_goes_on zero kept answer = omega arith
wait_goes_on (suc zero) kept answer = if_each (GoesOn 1) (is_misuse answer) (onward.Stays answer) (onward.Stays kept) (λ e. omega arith) (omega arith)
wait_goes_on (suc (suc zero)) kept answer = omega arith
wait_goes_on (suc (suc (suc n))) kept answer = tt

wait_continues : (w : Caller) (words : List ℕ) (made : ℕ) (kept answer : ℤ) → Continues w call.CondWait words made kept answer
wait_continues w words made kept answer = silent w call.CondWait words made kept answer refl (wait_goes_on made kept answer)

wait_goes_at : (w : Caller) (words : List ℕ) (made : ℕ) (kept answer : ℤ) (c m : ℕ) → CallGoes w call.CondWait words made kept answer (wait_due_at c m made kept)
wait_goes_at w words zero kept answer c m = (asked op.CondEnter (object.Cond c) refl refl refl, (λ l f. tt), goes refl (wait_continues w words zero kept answer))
wait_goes_at w words (suc zero) kept answer c m = (asked op.Unlock (object.Mutex m) refl refl refl, (λ l f. tt), goes refl (wait_continues w words 1 kept answer))
wait_goes_at w words (suc (suc zero)) kept answer c m =
    if_each (CallGoes w call.CondWait words 2 kept answer) (is_misuse kept) (due.Trap trap.MutexMisuse) (due.Operate (op.CondWake (count_in kept)) (object.Cond c))
    (λ e. tt)
    (asked (op.CondWake (count_in kept)) (object.Cond c) refl refl refl, (λ l f. tt), goes refl (wait_continues w words 2 kept answer))
wait_goes_at w words (suc (suc (suc n))) kept answer c m = (asked op.Lock (object.Mutex m) refl refl refl, (λ l f. tt), goes refl (wait_continues w words (suc (suc (suc n))) kept answer))

wait_goes : (w : Caller) (words : List ℕ) (made : ℕ) (kept answer : ℤ) → CallGoes w call.CondWait words made kept answer (wait_due w words made kept)
wait_goes w words made kept answer =
    at_each (CallGoes w call.CondWait words made kept answer) (cell_of w words 0 kind.Cond) (λ c. at_cell (cell_of w words 1 kind.Mutex) (λ m. wait_due_at c m made kept))
    (λ c. at_each (CallGoes w call.CondWait words made kept answer) (cell_of w words 1 kind.Mutex) (λ m. wait_due_at c m made kept) (λ m. wait_goes_at w words made kept answer c m) (λ k. tt))
    (λ k. tt)

-- a call with one operation on the condition or the barrier of its first argument
barrier_init_goes : (w : Caller) (words : List ℕ) (made : ℕ) (kept answer : ℤ) → CallGoes w call.BarrierInit words made kept answer (barrier_init_due w words made kept)
barrier_init_goes w words zero kept answer =
    at_each (CallGoes w call.BarrierInit words zero kept answer) (cell_of w words 0 kind.Barrier) (λ c. due.Operate (op.BarrierInit (barrier_count (number (argument words 1)))) (object.Barrier c))
    (λ c. (asked (op.BarrierInit (barrier_count (number (argument words 1)))) (object.Barrier c) refl refl refl, (λ l f. tt), goes refl (silent w call.BarrierInit words zero kept answer refl (checked_goes_on 0 answer))))
    (λ k. tt)
barrier_init_goes w words (suc n) kept answer =
    if_each (CallGoes w call.BarrierInit words (suc n) kept answer) (is_misuse kept) (due.Trap trap.BarrierMisuse) due.Quiet (λ misuse. tt) (gives_zero w call.BarrierInit words (suc n) kept refl (λ a. refl))

barrier_wait_goes_on : (made : ℕ) (kept answer : ℤ) → GoesOn made (barrier_wait_onward made kept answer)
barrier_wait_goes_on zero kept answer = if_each (GoesOn 0) (is_serial answer) (onward.Gives _) (onward.Stays answer) (λ e. tt) (omega arith)
barrier_wait_goes_on (suc n) kept answer = if_each (GoesOn (suc n)) (is_serial kept) (onward.Gives _) (onward.Gives 0) (λ e. tt) tt

barrier_wait_continues : (w : Caller) (words : List ℕ) (made : ℕ) (kept answer : ℤ) → Continues w call.BarrierWait words made kept answer
barrier_wait_continues w words made kept answer = silent w call.BarrierWait words made kept answer refl (barrier_wait_goes_on made kept answer)

barrier_wait_goes : (w : Caller) (words : List ℕ) (made : ℕ) (kept answer : ℤ) → CallGoes w call.BarrierWait words made kept answer (barrier_wait_due w words made kept)
barrier_wait_goes w words zero kept answer =
    at_each (CallGoes w call.BarrierWait words zero kept answer) (cell_of w words 0 kind.Barrier) (λ c. due.Operate op.Arrive (object.Barrier c))
    (λ c. (asked op.Arrive (object.Barrier c) refl refl refl, (λ l f. tt), goes refl (barrier_wait_continues w words zero kept answer)))
    (λ k. tt)
barrier_wait_goes w words (suc n) kept answer =
    if_each (CallGoes w call.BarrierWait words (suc n) kept answer) (is_misuse kept) (due.Trap trap.BarrierMisuse) (if is_serial kept then due.Quiet else at_cell (cell_of w words 0 kind.Barrier) (λ c. due.Operate (op.Pass (count_in kept)) (object.Barrier c)))
    (λ e. tt)
    (if_each (CallGoes w call.BarrierWait words (suc n) kept answer) (is_serial kept) due.Quiet (at_cell (cell_of w words 0 kind.Barrier) (λ c. due.Operate (op.Pass (count_in kept)) (object.Barrier c)))
    (λ e. record { prints_nothing = refl; value = word kept; gives = λ a. ap (λ b. if b then onward.Gives (word kept) else onward.Gives 0) e })
    (at_each (CallGoes w call.BarrierWait words (suc n) kept answer) (cell_of w words 0 kind.Barrier) (λ c. due.Operate (op.Pass (count_in kept)) (object.Barrier c))
    (λ c. (asked (op.Pass (count_in kept)) (object.Barrier c) refl refl refl, (λ l f. tt), goes refl (barrier_wait_continues w words (suc n) kept answer)))
    (λ k. tt)))

print_goes : (w : Caller) (c : LibraryCall) (words : List ℕ) (made : ℕ) (kept answer : ℤ) (bytes : ℕ) → length (piece_of c words) ≡ bytes → GoesOn made (library_onward w c words made kept answer) → CallGoes w c words made kept answer (print_due w bytes)
print_goes w c words made kept answer bytes p g =
    if_each (CallGoes w c words made kept answer) (nat_le (w.printed + bytes) most_printed) (due.Operate op.Print object.Output) (due.Trap trap.Limit)
    (λ e. let room = leb-true (w.printed + bytes) most_printed e in (asked op.Print object.Output refl refl refl, (λ l f. tt), goes refl (record { prints = λ h. omega arith; goes_on = g })))
    tt

asks_goes : (w : Caller) (c : LibraryCall) (words : List ℕ) (made : ℕ) (kept answer : ℤ) (want : CellKind) → IsWithoutEvents w c words made kept → CallGoes w c words made kept answer (asks_for w words want)
asks_goes w c words made kept answer want h = at_each (CallGoes w c words made kept answer) (cell_of w words 0 want) (λ cell. due.Quiet) (λ cell. h) (λ k. tt)

-- what is due in a call, with what becomes of it
pub call_goes : (w : Caller) (c : LibraryCall) (words : List ℕ) (made : ℕ) (kept answer : ℤ) → CallGoes w c words made kept answer (library_due w c words made kept)
call_goes w (call.Create function) words made kept answer = create_goes w function words made kept answer
call_goes w call.Join words made kept answer = join_goes w words made kept answer
call_goes w call.Exit words made kept answer = exit_goes w words made kept answer
call_goes w call.SelfNumber words made kept answer = record { prints_nothing = refl; value = _; gives = λ a. refl }
call_goes w call.SameThread words made kept answer = record { prints_nothing = refl; value = _; gives = λ a. refl }
call_goes w call.MutexInit words made kept answer = mutex_goes w call.MutexInit op.MutexInit words made kept answer (λ cell. asked op.MutexInit (object.Mutex cell) refl refl refl) (λ l f. tt) refl (silent w call.MutexInit words made kept answer refl (checked_goes_on made answer)) (λ n. gives_zero w call.MutexInit words (suc n) kept refl (λ a. refl))
call_goes w call.MutexLock words made kept answer = mutex_goes w call.MutexLock op.Lock words made kept answer (λ cell. asked op.Lock (object.Mutex cell) refl refl refl) (λ l f. tt) refl (silent w call.MutexLock words made kept answer refl (checked_goes_on made answer)) (λ n. gives_zero w call.MutexLock words (suc n) kept refl (λ a. refl))
call_goes w call.MutexUnlock words made kept answer = mutex_goes w call.MutexUnlock op.Unlock words made kept answer (λ cell. asked op.Unlock (object.Mutex cell) refl refl refl) (λ l f. tt) refl (silent w call.MutexUnlock words made kept answer refl (checked_goes_on made answer)) (λ n. gives_zero w call.MutexUnlock words (suc n) kept refl (λ a. refl))
call_goes w call.MutexTryLock words made kept answer = try_goes w words made kept answer
call_goes w call.MutexDestroy words made kept answer = asks_goes w call.MutexDestroy words made kept answer kind.Mutex (gives_zero w call.MutexDestroy words made kept refl (λ a. refl))
call_goes w call.CondInit words made kept answer = asks_goes w call.CondInit words made kept answer kind.Cond (gives_zero w call.CondInit words made kept refl (λ a. refl))
call_goes w call.CondWait words made kept answer = wait_goes w words made kept answer
call_goes w call.CondSignal words made kept answer =
    at_each (CallGoes w call.CondSignal words made kept answer) (cell_of w words 0 kind.Cond) (λ c. due.Operate op.Signal (object.Cond c))
    (λ c. (asked op.Signal (object.Cond c) refl refl refl, (λ l f. tt), goes refl (silent w call.CondSignal words made kept answer refl tt)))
    (λ k. tt)
call_goes w call.CondDestroy words made kept answer = asks_goes w call.CondDestroy words made kept answer kind.Cond (gives_zero w call.CondDestroy words made kept refl (λ a. refl))
call_goes w call.BarrierInit words made kept answer = barrier_init_goes w words made kept answer
call_goes w call.BarrierWait words made kept answer = barrier_wait_goes w words made kept answer
call_goes w call.BarrierDestroy words made kept answer = asks_goes w call.BarrierDestroy words made kept answer kind.Barrier (gives_zero w call.BarrierDestroy words made kept refl (λ a. refl))
call_goes w call.RwInit words made kept answer = rwlock_goes w call.RwInit op.RwInit words made kept answer (λ cell. asked op.RwInit (object.Rw cell) refl refl refl) (λ l f. tt) refl (silent w call.RwInit words made kept answer refl (checked_goes_on made answer)) (λ n. gives_zero w call.RwInit words (suc n) kept refl (λ a. refl))
call_goes w call.RwRdLock words made kept answer = rwlock_goes w call.RwRdLock op.RdLock words made kept answer (λ cell. asked op.RdLock (object.Rw cell) refl refl refl) (λ l f. tt) refl (silent w call.RwRdLock words made kept answer refl (checked_goes_on made answer)) (λ n. gives_zero w call.RwRdLock words (suc n) kept refl (λ a. refl))
call_goes w call.RwWrLock words made kept answer = rwlock_goes w call.RwWrLock op.WrLock words made kept answer (λ cell. asked op.WrLock (object.Rw cell) refl refl refl) (λ l f. tt) refl (silent w call.RwWrLock words made kept answer refl (checked_goes_on made answer)) (λ n. gives_zero w call.RwWrLock words (suc n) kept refl (λ a. refl))
call_goes w call.RwUnlock words made kept answer = rwlock_goes w call.RwUnlock op.RwUnlock words made kept answer (λ cell. asked op.RwUnlock (object.Rw cell) refl refl refl) (λ l f. tt) refl (silent w call.RwUnlock words made kept answer refl (checked_goes_on made answer)) (λ n. gives_zero w call.RwUnlock words (suc n) kept refl (λ a. refl))
call_goes w call.RwDestroy words made kept answer = asks_goes w call.RwDestroy words made kept answer kind.Rw (gives_zero w call.RwDestroy words made kept refl (λ a. refl))
call_goes w call.Free words made kept answer = gives_zero w call.Free words made kept refl (λ a. refl)
call_goes w call.GetChar words made kept answer = (asked (op.GetChar (length w.setup.input)) object.Input refl refl refl, (λ l f. tt), goes refl (silent w call.GetChar words made kept answer refl tt))
call_goes w (call.Print format) words made kept answer = print_goes w (call.Print format) words made kept answer (length (printed_piece format words)) refl tt
call_goes w call.PutChar words made kept answer = print_goes w call.PutChar words made kept answer 1 refl tt
