-- What a seat's thread does: marks, which touch no word, and the load, store or operation after them.
use Rattle.std.specs.Prelude.{◌≡◌, ⊤, ℕ, zero, suc, ℤ, pos, true, false, [], slice_get}
use Rattle.std.specs.Option.{unwrap_or}
use Rattle.sync_objects.specs.Setup.{SetupView}
use Rattle.sync_objects.specs.Names.{name_of}
use Rattle.sync_objects.specs.declared.entry.Noted.{Noted}
use Rattle.sync_objects.specs.declared.object.ObjId.{ObjId}
use Rattle.sync_objects.specs.declared.object.ObjId.TheVariants as object
use Rattle.sync_objects.specs.declared.operation.Op.{Op}
use Rattle.sync_objects.specs.declared.operation.Op.TheVariants as op
use Rattle.word_semantics.specs.declared.event.Action.{Action}
use Rattle.word_semantics.specs.declared.event.Action.TheVariants as action
use Rattle.word_semantics.specs.Values.{number}
use Rattle.flow_code.specs.declared.code.Code.{Code}
use Rattle.flow_code.specs.Next.{stepped, gave_up, stopped, slot_closed}
use Rattle.flow_code.specs.Settle.{settled, next, after}
use Rattle.core_run.specs.Machine.{Told, accessed, marked, operated, entry_of, access_of, may_revoke, may_stop, may_close, start_told}
use Rattle.thread_step.specs.Steps as thread
use Rattle.shared_cells.specs.Views.{SeatView, with_thread}

-- ---- marks

-- the thread after its next action, which is a mark
abbrev pub after_mark : Code → SetupView → ℕ → Told → Told
after_mark code s t told = marked told (after code s t told.thread (pos 0))

-- the thread after so many marks
abbrev pub after_marks : Code → SetupView → ℕ → ℕ → Told → Told
after_marks code s t zero told = told
after_marks code s t (suc n) told = after_mark code s t (after_marks code s t n told)

-- its next so many actions are marks
abbrev pub AreMarks : Code → SetupView → ℕ → ℕ → Told → Type 0
AreMarks code s t zero told = ⊤
AreMarks code s t (suc n) told = AreMarks code s t n told × (next code s t (after_marks code s t n told).thread ≡ action.Mark)

-- ---- accesses

-- the thread with its quiet steps made
abbrev pub at_rest : Code → SetupView → ℕ → Told → Told
at_rest code s t told = marked told (settled code s t told.thread)

-- the thread after a load of a cell that found this word
abbrev pub after_load : Code → SetupView → ℕ → Told → (cell word : ℕ) → Told
after_load code s t told c w = let th = settled code s t told.thread in accessed told (stepped code s t th (number w)) (access_of t th c w false)

-- the thread after a store of this word into a cell
abbrev pub after_store : Code → SetupView → ℕ → Told → (cell word : ℕ) → Told
after_store code s t told c w = let th = settled code s t told.thread in accessed told (stepped code s t th (pos 0)) (access_of t th c w true)

-- ---- operations

-- how an operation is made of a thread: as its own next action, or from outside it
pub data Way : Type 0 where
  Own : Way
  Revokes : (lock : ℕ) → (stripe : ℕ) → Way
  Stops : Way
  Closes : (slot : ℕ) → Way

-- all but revokes, stops and closes are the thread's own actions
abbrev pub way_of : Op → ObjId → Way
way_of op.Revoke (object.Weak lock stripe) = Revokes lock stripe
way_of op.Stop object.Halt = Stops
way_of op.Close (object.Slot k) = Closes k
way_of o obj = Own

-- the thread may make the operation, whatever its object's word is
abbrev pub IsDueBy : Way → Code → SetupView → ℕ → Told → Op → ObjId → Type 0
IsDueBy Own code s t told o obj = next code s t told.thread ≡ action.Operate o obj
IsDueBy (Revokes lock stripe) code s t told o obj = may_revoke told.thread lock stripe ≡ true
IsDueBy Stops code s t told o obj = may_stop told.thread ≡ true
IsDueBy (Closes k) code s t told o obj = (k ≡ t) × (may_close told.thread ≡ true)

-- the same, with the way that the operation itself asks for
abbrev pub IsDue : Code → SetupView → ℕ → Told → Op → ObjId → Type 0
IsDue code s t told o obj = IsDueBy (way_of o obj) code s t told o obj

-- the operation's entry, with its number
abbrev pub noted_by : ℕ → Told → Op → ObjId → ℕ → Noted
noted_by t told o obj n = record { entry = entry_of t told.thread (name_of o) obj; number = n }

-- the thread after the operation, on this answer and with this number
abbrev pub after_by : Way → Code → SetupView → ℕ → Told → Op → ObjId → ℤ → ℕ → Told
after_by Own code s t told o obj answer n = thread.after code s t (at_rest code s t told) (action.Operate o obj) answer n
after_by (Revokes lock stripe) code s t told o obj answer n = operated told (gave_up told.thread lock stripe) (noted_by t told o obj n) []
after_by Stops code s t told o obj answer n = operated told (stopped told.thread) (noted_by t told o obj n) []
after_by (Closes k) code s t told o obj answer n = operated told (slot_closed told.thread) (noted_by t told o obj n) []

-- the same, with the way that the operation itself asks for
abbrev pub after_operation : Code → SetupView → ℕ → Told → Op → ObjId → ℤ → ℕ → Told
after_operation code s t told o obj answer n = after_by (way_of o obj) code s t told o obj answer n

-- ---- the one thread of a view

-- the first thread that the view carries
abbrev pub own : SeatView → Told
own v = unwrap_or (slice_get v.carried 0) (start_told v.code v.setup v.from)

-- that thread after so many marks
abbrev pub pending : SeatView → ℕ → Told
pending v n = after_marks v.code v.setup v.from n (own v)

-- that thread makes so many marks, and then this comes next
pub record IsNext (v : SeatView) (n : ℕ) (a : Action) : Type 0 where
  pub marks : AreMarks v.code v.setup v.from n (own v)
  pub comes : next v.code v.setup v.from (pending v n).thread ≡ a

-- that thread makes so many marks, and then it may make the operation, whatever its object's word is
pub record IsDueIn (v : SeatView) (n : ℕ) (o : Op) (obj : ObjId) : Type 0 where
  pub marks : AreMarks v.code v.setup v.from n (own v)
  pub due : IsDue v.code v.setup v.from (pending v n) o obj

-- ---- what the thread's steps make of the view

-- the thread has made so many marks, and a load of a cell that found this word
abbrev pub loaded : SeatView → (marks : ℕ) → (cell word : ℕ) → SeatView
loaded v n c w = with_thread v (after_load v.code v.setup v.from (pending v n) c w)

-- the thread has made so many marks, and a store of this word into a cell
abbrev pub stored : SeatView → (marks : ℕ) → (cell word : ℕ) → SeatView
stored v n c w = with_thread v (after_store v.code v.setup v.from (pending v n) c w)

-- the thread has made so many marks, and an operation with this answer and this number
abbrev pub made : SeatView → (marks : ℕ) → Op → ObjId → (answer : ℤ) → (number : ℕ) → SeatView
made v n o obj answer number_is = with_thread v (after_operation v.code v.setup v.from (pending v n) o obj answer number_is)
