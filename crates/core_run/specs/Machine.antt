-- The machine of a code and a setup: what each label does with a thread, and the state at the start.
use Rattle.std.specs.Prelude.{ℕ, zero, suc, ◌+◌, nat_lt, ◌&&◌, Bool, true, false, not, if◌then◌else◌, ℤ, pos, List, [], ◌∷◌, ◌++◌}
use Rattle.sync_objects.specs.Setup.{SetupView}
use Rattle.sync_objects.specs.Words.{number_of}
use Rattle.sync_objects.specs.Names.{name_of}
use Rattle.sync_objects.specs.Advance.{Advance, NotAllowed as NoRow, Advances, advanced}
use Rattle.sync_objects.specs.declared.entry.Entry.{Entry}
use Rattle.sync_objects.specs.declared.entry.Noted.{Noted}
use Rattle.sync_objects.specs.declared.object.ObjId.{ObjId}
use Rattle.sync_objects.specs.declared.object.ObjId.TheVariants as object
use Rattle.sync_objects.specs.declared.operation.Op.{Op}
use Rattle.sync_objects.specs.declared.operation.Op.TheVariants as op
use Rattle.sync_objects.specs.declared.operation.OpName.{OpName}
use Rattle.flow_code.specs.declared.code.Code.{Code}
use Rattle.word_semantics.specs.declared.event.Action.{Action}
use Rattle.word_semantics.specs.declared.event.Action.TheVariants as action
use Rattle.word_semantics.specs.Values.{number}
use Rattle.flow_code.specs.Threads.{Thread}
use Rattle.flow_code.specs.Next.{stepped, action_at, holds, gave_up, stopped, slot_closed, has_ended, has_begun}
use Rattle.word_semantics.specs.Limits.{most_entries, most_revokes}
use Rattle.flow_code.specs.Settle.{settled}
use Rattle.thread_interpreter.specs.declared.access.Access.{Access}
use Rattle.core_run.specs.Words.{cells_of, has_object, place_of, start_words}
use Rattle.thread_interpreter.specs.Pieces.{piece_next}
use Rattle.thread_interpreter.specs.Starts.{start_thread}
use Rattle.run_theory.specs.Labels.{Label, Go, Revoke, Stop, Close}
use Rattle.run_theory.specs.Steps.{Change, NotAllowed, Becomes, Effect, Refused, Marks, Loads, Stores, Operates, Machine, State}

-- a thread with what it has done: its entries with their numbers, its accesses, and what each of its prints has printed
pub record Told : Type 0 where
  pub thread : Thread
  pub entries : List Noted
  pub accesses : List Access
  pub pieces : List (List ℕ)

-- after an access
abbrev pub accessed : Told → Thread → Access → Told
accessed told th a = record told { thread = th; accesses = told.accesses ++ a ∷ [] }

-- after a mark
abbrev pub marked : Told → Thread → Told
marked told th = record told { thread = th }

-- after an operation, which may have printed
abbrev pub operated : Told → Thread → Noted → List (List ℕ) → Told
operated told th x printed = record told { thread = th; entries = told.entries ++ x ∷ []; pieces = told.pieces ++ printed }

-- what the table of operations says at a word, and what becomes of the thread
abbrev pub change_of : Told → Entry → List (List ℕ) → (ℤ → Thread) → ℕ → Advance → Change Told
change_of told e printed after old NoRow = NotAllowed
change_of told e printed after old (Advances new answer) = Becomes new answer (operated told (after answer) (record { entry = e; number = number_of old }) printed)

-- the entry of a log for an operation that thread t makes next
abbrev pub entry_of : ℕ → Thread → OpName → ObjId → Entry
entry_of t th o obj = record { thread = t; count = th.count; op = o; obj = obj }

-- a load or store of thread t, with the value read or written
abbrev pub access_of : ℕ → Thread → ℕ → ℕ → Bool → Access
access_of t th cell value store = record { thread = t; count = th.count; cell = cell; value = value; store = store }

-- an operation of thread t, if the machine has the object
abbrev pub operation : Code → SetupView → ℕ → Told → Op → ObjId → List (List ℕ) → (ℤ → Thread) → Effect Told
operation code s t told o obj printed after =
    if has_object code s obj
    then Operates (entry_of t told.thread (name_of o) obj) (λ w. change_of told (entry_of t told.thread (name_of o) obj) printed after w (advanced o t w))
    else Refused

-- what thread t does next, where th is its state after its quiet steps
abbrev pub action_effect : Code → SetupView → ℕ → Told → Thread → Action → Effect Told
action_effect code s t told th action.Quiet = Refused
action_effect code s t told th (action.Load c) = if nat_lt c (cells_of code s) then Loads c (λ w. accessed told (stepped code s t th (number w)) (access_of t th c w false)) else Refused
action_effect code s t told th (action.Store c w) = if nat_lt c (cells_of code s) then Stores c w (accessed told (stepped code s t th (pos 0)) (access_of t th c w true)) else Refused
action_effect code s t told th action.Mark = Marks (marked told (stepped code s t th (pos 0)))
action_effect code s t told th (action.Operate o obj) = operation code s t (record told { thread = th }) o obj (piece_next code th o) (λ answer. stepped code s t th answer)
action_effect code s t told th action.Ended = Refused

-- a stripe may be taken from a thread that holds it, unless it has ended or its list has no room
abbrev pub may_revoke : Thread → ℕ → ℕ → Bool
may_revoke th lock stripe = not (has_ended th.phase) && holds th.stripes lock stripe && nat_lt th.entries most_entries && nat_lt th.revokes most_revokes

-- a thread is stopped only between its begin and its end
abbrev pub may_stop : Thread → Bool
may_stop th = has_begun th.phase && not (has_ended th.phase)

-- a thread is closed only before its begin
abbrev pub may_close : Thread → Bool
may_close th = not (has_begun th.phase) && not (has_ended th.phase)

-- what a label does with a thread
unfoldable pub effect_of : Code → SetupView → Label → Told → Effect Told
effect_of code s (Go t) told = action_effect code s t told (settled code s t told.thread) (action_at code s t (settled code s t told.thread))
effect_of code s (Revoke t lock stripe) told = if may_revoke told.thread lock stripe then operation code s t told op.Revoke (object.Weak lock stripe) [] (λ answer. gave_up told.thread lock stripe) else Refused
effect_of code s (Stop t) told = if may_stop told.thread then operation code s t told op.Stop object.Halt [] (λ answer. stopped told.thread) else Refused
effect_of code s (Close t) told = if may_close told.thread then operation code s t told op.Close (object.Slot t) [] (λ answer. slot_closed told.thread) else Refused

-- the machine of a code and a setup
abbrev pub machine : Code → SetupView → Machine Told
machine code s = record {
  effect = effect_of code s;
  count = λ told. told.thread.count;
  has_ended = λ told. has_ended told.thread.phase;
  cells = cells_of code s;
  has_object = has_object code s;
  place = place_of (cells_of code s);
  number = number_of;
}

-- ---- the start

-- a thread that has left no entries, accesses or printed pieces yet
abbrev pub start_told : Code → SetupView → ℕ → Told
start_told code s k = record { thread = start_thread code s k; entries = []; accesses = []; pieces = [] }

-- the threads from k on, so many
abbrev pub start_threads_from : Code → SetupView → ℕ → ℕ → List Told
start_threads_from code s k zero = []
start_threads_from code s k (suc n) = start_told code s k ∷ start_threads_from code s (k + 1) n

-- the words and the threads of all slots before any step
abbrev pub start_state : Code → SetupView → State Told
start_state code s = record { words = start_words code s; threads = start_threads_from code s 0 s.slots }
