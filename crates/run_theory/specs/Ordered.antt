-- What happens at each place of a run, and which places are ordered by operations that pass something on.
use Rattle.std.specs.Prelude.{◌≡◌, ℕ, ◌<◌, zero, suc, ℤ, pos, Bool, true, false, List, [], ◌∷◌, Option, Some, None, slice_get, slice_index, option_and_then}
use Rattle.sync_objects.specs.declared.entry.Noted.{Noted}
use Rattle.sync_objects.specs.declared.object.ObjId.{ObjId}
use Rattle.sync_objects.specs.declared.object.ObjId.TheVariants.{Mutex, Weak, Rw}
use Rattle.sync_objects.specs.declared.operation.OpName.{OpName}
use Rattle.sync_objects.specs.declared.operation.OpName.TheVariants.{Lock, TryLock, Unlock, Take, Retake, Give, Revoke, Start, Begin, End, Join, RdLock, WrLock, RwUnlock}
use Rattle.sync_objects.specs.declared.kind.ObjKind.TheVariants as kind
use Rattle.sync_objects.specs.declared.mode.Mode.{Mode}
use Rattle.sync_objects.specs.declared.mode.Mode.TheVariants.{Read, Write}
use Rattle.sync_objects.specs.Modes.{excludes, covers}
use Rattle.sync_objects.specs.Packing.{shown}
use Rattle.sync_objects.specs.States.{reads, writes}
use Rattle.run_theory.specs.Labels.{Label, label_thread}
use Rattle.run_theory.specs.Steps.{Change, NotAllowed, Becomes, Effect, Refused, Marks, Loads, Stores, Operates, Machine, State, stepped, number_at, Reaches}
use Rattle.run_theory.specs.Laws.{Access, NoAccess, LoadOf, StoreOf}

-- a thread's mark, its access, or its operation with its object's word before it and its answer
pub data Event : Type 0 where
  Marked : (thread : ℕ) → Event
  Loaded : (thread : ℕ) → (cell : ℕ) → Event
  Stored : (thread : ℕ) → (cell : ℕ) → Event
  Did : (thread : ℕ) → Noted → (before : ℕ) → (answer : ℤ) → Event

-- the thread of which the event is
abbrev pub event_thread : Event → ℕ
event_thread (Marked t) = t
event_thread (Loaded t c) = t
event_thread (Stored t c) = t
event_thread (Did t x before answer) = t

-- only loads and stores touch a cell
abbrev pub event_access : Event → Access
event_access (Marked t) = NoAccess
event_access (Loaded t c) = LoadOf c
event_access (Stored t c) = StoreOf c
event_access (Did t x before answer) = NoAccess

-- none where the object's word doesn't allow the operation
abbrev pub operation_event : {T : Type 0} → ℕ → Noted → ℕ → Change T → Option Event
operation_event t x before NotAllowed = None
operation_event t x before (Becomes word answer th) = Some (Did t x before answer)

module _ {T : Type 0} (m : Machine T) where
  abbrev pub effect_event : ℕ → List ℕ → Effect T → Option Event
  effect_event t ws Refused = None
  effect_event t ws (Marks th) = Some (Marked t)
  effect_event t ws (Loads c next) = Some (Loaded t c)
  effect_event t ws (Stores c w th) = Some (Stored t c)
  effect_event t ws (Operates e change) = operation_event t (record { entry = e; number = number_at m ws e.obj }) (slice_index ws (m.place e.obj)) (change (slice_index ws (m.place e.obj)))

  abbrev pub event_of_thread : List ℕ → Label → Option T → Option Event
  event_of_thread ws l None = None
  event_of_thread ws l (Some th) = effect_event (label_thread l) ws (m.effect l th)

  -- what the label does in this state, if it is allowed there
  abbrev pub event_of : State T → Label → Option Event
  event_of s l = event_of_thread s.words l (slice_get s.threads (label_thread l))

  -- what happens at the place k of the run
  abbrev pub event_at : List Label → State T → ℕ → Option Event
  event_at [] s k = None
  event_at (l ∷ ls) s zero = option_and_then (λ _. event_of s l) (stepped m s l)
  event_at (l ∷ ls) s (suc k) = option_and_then (λ s1. event_at ls s1 k) (stepped m s l)

  -- the state in which the label at the place k of the run is made
  abbrev pub state_at : List Label → State T → ℕ → Option (State T)
  state_at ls s zero = Some s
  state_at [] s (suc k) = None
  state_at (l ∷ ls) s (suc k) = option_and_then (λ s1. state_at ls s1 k) (stepped m s l)

-- the operation, by the thread at this word of the object, lets a lock or a stripe go that was held in this mode
pub data IsRelease : ObjId → Mode → OpName → (thread before : ℕ) → Type 0 where
  by_unlock : (cell thread before : ℕ) → IsRelease (Mutex cell) Write Unlock thread before
  by_give : (lock stripe thread before : ℕ) → IsRelease (Weak lock stripe) Write Give thread before
  by_revoke : (lock stripe thread before : ℕ) → IsRelease (Weak lock stripe) Write Revoke thread before
  by_write_unlock : (cell thread before : ℕ) → writes thread (shown kind.Rw before) ≡ true → IsRelease (Rw cell) Write RwUnlock thread before
  by_read_unlock : (cell thread before : ℕ) → reads thread (shown kind.Rw before) ≡ true → IsRelease (Rw cell) Read RwUnlock thread before

-- the operation with this answer gets a lock or a stripe in this mode
pub data IsAcquire : ObjId → Mode → OpName → (answer : ℤ) → Type 0 where
  by_lock : (cell : ℕ) (answer : ℤ) → IsAcquire (Mutex cell) Write Lock answer
  by_trylock : (cell : ℕ) → IsAcquire (Mutex cell) Write TryLock (pos 0)
  by_take : (lock stripe : ℕ) (answer : ℤ) → IsAcquire (Weak lock stripe) Write Take answer
  by_retake : (lock stripe : ℕ) (answer : ℤ) → IsAcquire (Weak lock stripe) Write Retake answer
  by_write_lock : (cell : ℕ) → IsAcquire (Rw cell) Write WrLock (pos 0)
  by_read_lock : (cell : ℕ) → IsAcquire (Rw cell) Read RdLock (pos 0)

-- the first operation, by the thread at this word, hands the object on to the second one, which has this answer
pub data HandsOver : ObjId → (first : OpName) → (thread before : ℕ) → (second : OpName) → (answer : ℤ) → Type 0 where
  release_to_acquire : (object : ObjId) (a b : Mode) (first : OpName) (thread before : ℕ) (second : OpName) (answer : ℤ) → IsRelease object a first thread before → IsAcquire object b second answer → excludes a b ≡ true → HandsOver object first thread before second answer
  start_to_begin : (object : ObjId) (thread before : ℕ) (answer : ℤ) → HandsOver object Start thread before Begin answer
  end_to_join : (object : ObjId) (thread before : ℕ) (answer : ℤ) → HandsOver object End thread before Join answer

-- the first operation, by the thread at this word, passes to the second, which has this answer
pub record PassesTo (thread : ℕ) (first : Noted) (before : ℕ) (second : Noted) (answer : ℤ) : Type 0 where
  pub same_object : first.entry.obj ≡ second.entry.obj
  pub earlier : first.number < second.number
  pub hands : HandsOver first.entry.obj first.entry.op thread before second.entry.op answer

-- one link of a chain: the thread of the event at i makes an operation after i, and it passes to the operation at b
pub record Link (at : ℕ → Option Event) (i b : ℕ) : Type 0 where
  pub start : Event
  pub start_is : at i ≡ Some start
  pub a : ℕ
  pub after : i < a
  pub first : Noted
  pub first_before : ℕ
  pub first_answer : ℤ
  pub first_is : at a ≡ Some (Did (event_thread start) first first_before first_answer)
  pub taker : ℕ
  pub second : Noted
  pub before : ℕ
  pub answer : ℤ
  pub second_is : at b ≡ Some (Did taker second before answer)
  pub passes : PassesTo (event_thread start) first first_before second answer

-- a chain of links leads from i to an operation before j of the thread of the event at j
pub data Ordered (at : ℕ → Option Event) : ℕ → ℕ → Type 0 where
  last : {i j : ℕ} (b : ℕ) (x y : Event) → Link at i b → b < j → at b ≡ Some x → at j ≡ Some y → event_thread x ≡ event_thread y → Ordered at i j
  more : {i j : ℕ} (b : ℕ) → Link at i b → Ordered at b j → Ordered at i j

module _ {T : Type 0} (m : Machine T) where
  -- the label is an operation of the thread by which it lets the lock go that it held in this mode
  pub record Releases (lock : ObjId) (held : Mode) (t : ℕ) (s : State T) (l : Label) : Type 0 where
    pub operation : Noted
    pub before : ℕ
    pub answer : ℤ
    pub happens : event_of m s l ≡ Some (Did t operation before answer)
    pub on_lock : operation.entry.obj ≡ lock
    pub mode : Mode
    pub enough : covers mode held ≡ true
    pub is_release : IsRelease lock mode operation.entry.op t before

  -- the label is an operation of the thread by which it gets the lock in this mode
  pub record Acquires (lock : ObjId) (held : Mode) (t : ℕ) (s : State T) (l : Label) : Type 0 where
    pub operation : Noted
    pub before : ℕ
    pub answer : ℤ
    pub happens : event_of m s l ≡ Some (Did t operation before answer)
    pub on_lock : operation.entry.obj ≡ lock
    pub mode : Mode
    pub enough : covers mode held ≡ true
    pub is_acquire : IsAcquire lock mode operation.entry.op answer

  -- in which modes threads hold a lock, in all states that can be reached: no two threads hold it at once in modes that
  -- exclude each other, who no longer holds it in a mode has let it go, and who newly holds it in a mode has got it
  pub record IsHeldBy (lock : ObjId) (holds : Mode → ℕ → State T → Bool) (start : State T) : Type 0 where
    pub known : m.has_object lock ≡ true
    pub one : (a b : Mode) (s : State T) (t u : ℕ) → Reaches m start s → excludes a b ≡ true → holds a t s ≡ true → holds b u s ≡ true → t ≡ u
    pub released : (a : Mode) (s s1 : State T) (l : Label) (t : ℕ) → Reaches m start s → stepped m s l ≡ Some s1 → holds a t s ≡ true → holds a t s1 ≡ false → Releases lock a t s l
    pub acquired : (a : Mode) (s s1 : State T) (l : Label) (t : ℕ) → Reaches m start s → stepped m s l ≡ Some s1 → holds a t s ≡ false → holds a t s1 ≡ true → Acquires lock a t s l
