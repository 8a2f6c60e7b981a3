-- What a turn of a carrier comes to, and why.
use Rattle.std.specs.Prelude.{◌≡◌, ◌≢◌, ℕ, ◌+◌, ◌-◌, ◌*◌, ◌^◌, ◌<◌, ◌≤◌, Bool, true, false, List, ◌++◌, length, Option, Some, None, slice_index, slice_set, Contains, ◌⊎◌}
use Rattle.word_semantics.specs.Limits.{most_entries, most_revokes}
use Rattle.word_semantics.specs.declared.event.Action.{Action}
use Rattle.word_semantics.specs.declared.event.Action.TheVariants as action
use Rattle.core_run.specs.Machine.{Told}
use Rattle.core_run.specs.Words.{cells_of, has_object, place_of}
use Rattle.flow_code.specs.Next.{has_begun, holds}
use Rattle.flow_code.specs.Threads.{Thread}
use Rattle.shared_cells.specs.Rule.{Board}
use Rattle.shared_cells.specs.Seats.{view_of, HasNext, AttemptIs}
use Rattle.shared_cells.specs.Threads.{Way, Own, Revokes, Stops, Closes, way_of, pending, after_load, after_store}
use Rattle.shared_cells.specs.Views.{Note, with_thread}
use Rattle.shared_cells.specs.Words.{objects_end, memory_place}
use Rattle.shared_cells.specs.declared.attempt.Attempt.{Attempt}
use Rattle.shared_cells.specs.declared.attempt.Attempt.TheVariants as attempt
use Rattle.shared_cells.specs.declared.seat.Seat.{Seat}
use Rattle.sync_objects.specs.Packing.{shown}
use Rattle.sync_objects.specs.States.{is_running, has_live, is_idle}
use Rattle.sync_objects.specs.declared.kind.ObjKind.TheVariants as kind
use Rattle.sync_objects.specs.declared.object.ObjId.{ObjId}
use Rattle.sync_objects.specs.declared.object.ObjId.TheVariants as object
use Rattle.sync_objects.specs.declared.operation.Op.{Op}
use Rattle.sync_objects.specs.declared.operation.Op.TheVariants as op
use Rattle.weak_turns.specs.Carrying.{Carrying, is_over}
use Rattle.weak_turns.specs.declared.ends.End.{End}
use Rattle.weak_turns.specs.declared.ends.End.TheVariants as end
use Rattle.weak_turns.specs.declared.played.Played.{Played}
use Rattle.weak_turns.specs.declared.played.Played.TheVariants as played
use Rattle.weak_turns.specs.declared.revokes.LockStripe.{LockStripe}

-- the thread that a seat knows, after its marks, and its number
abbrev pub thread_of : Seat → Thread
thread_of seat = (pending (view_of seat) seat.marks).thread

-- that of the seat's thread, which is its slot
abbrev pub number_of : Seat → ℕ
number_of seat = (view_of seat).from

-- ---- what was seen in a turn

-- the seat has met these words since, the newest first, and nothing else has changed
pub record Meets (old now : Seat) (fresh : List Note) : Type 0 where
  pub view : view_of now ≡ record (view_of old) { notes = fresh ++ (view_of old).notes }
  pub marks : now.marks ≡ old.marks

-- the seat has met this value at the word
abbrev pub Saw : List Note → (word value : ℕ) → Type 0
Saw fresh word value = Contains fresh (record { failed = false; word = word; value = value })

-- the memory word was set when the seat met it: it was found so, or the seat has set it
abbrev pub SawNoMemory : Board → List Note → Type 0
SawNoMemory cells fresh = (w : ℕ) × Saw fresh (memory_place cells.code cells.setup) w × (w ≢ 0)

-- where the word of an object stands, and the want word of a stripe
abbrev pub object_place : Board → ObjId → ℕ
object_place cells obj = place_of (cells_of cells.code cells.setup) obj

-- where the board says whether a thread wants the stripe
abbrev pub want_place : Board → (lock stripe : ℕ) → ℕ
want_place cells lock stripe = objects_end cells.code cells.setup + 8 * lock + stripe

-- the word of an object was looked at, and this is what a test says of it
abbrev pub SawState : Board → List Note → ObjId → (ℕ → Bool) → Bool → Type 0
SawState cells fresh obj test answer = (w : ℕ) × Saw fresh (object_place cells obj) w × (test w ≡ answer)

-- whether the program was seen to run
abbrev pub SawRunning : Board → List Note → Bool → Type 0
SawRunning cells fresh answer = SawState cells fresh object.Halt (λ w. is_running (shown kind.Halt w)) answer

-- whether a thread was seen to be live
abbrev pub SawLive : Board → List Note → Bool → Type 0
SawLive cells fresh answer = SawState cells fresh object.Threads (λ w. has_live (shown kind.Threads w)) answer

-- whether the slot of thread t was seen to be idle
abbrev pub SawIdle : Board → (t : ℕ) → List Note → Bool → Type 0
SawIdle cells t fresh answer = SawState cells fresh (object.Slot t) (λ w. is_idle (shown kind.Slot w)) answer

-- ---- ends that come from outside

-- a stop: the thread has begun, and the program doesn't run any more
pub record IsStopDue (cells : Board) (fresh : List Note) (th : Thread) : Type 0 where
  pub begun : has_begun th.phase ≡ true
  pub halted : SawRunning cells fresh false

-- a close: nobody has started the thread, and nobody will, or needs to
pub record IsCloseDue (cells : Board) (t : ℕ) (fresh : List Note) (th : Thread) : Type 0 where
  pub early : has_begun th.phase ≡ false
  pub idle : SawIdle cells t fresh true
  pub alone : SawRunning cells fresh false ⊎ SawLive cells fresh false

-- neither is due
pub data NoEndIsDue (cells : Board) (t : ℕ) (fresh : List Note) (th : Thread) : Type 0 where
  runs : has_begun th.phase ≡ true → SawRunning cells fresh true → NoEndIsDue cells t fresh th
  started : has_begun th.phase ≡ false → SawIdle cells t fresh false → NoEndIsDue cells t fresh th
  may_start : has_begun th.phase ≡ false → SawRunning cells fresh true → SawLive cells fresh true → NoEndIsDue cells t fresh th

-- which end is due, or that none is
abbrev pub EndIs : Board → (t : ℕ) → List Note → Thread → Option End → Type 0
EndIs cells t fresh th None = NoEndIsDue cells t fresh th
EndIs cells t fresh th (Some end.Stop) = IsStopDue cells fresh th
EndIs cells t fresh th (Some end.Close) = IsCloseDue cells t fresh th

-- ---- revokes

-- the thread holds the stripe, and took it so many turns ago or more
pub record IsHeldLong (th : Thread) (since : List ℕ) (budget turn lock stripe : ℕ) : Type 0 where
  pub stripe_is : stripe < 8
  pub lock_is : lock < 2 ^ 16
  pub held : holds th.stripes lock stripe ≡ true
  pub long : budget ≤ turn - slice_index since (8 * lock + stripe)

-- of the stripes with numbers below this one, those that the thread has held so long were seen not to be wanted
abbrev pub AreUnwanted : Board → Thread → List ℕ → (budget turn : ℕ) → List Note → (number : ℕ) → Type 0
AreUnwanted cells th since budget turn fresh number = (lock stripe : ℕ) → 8 * lock + stripe < number → IsHeldLong th since budget turn lock stripe → Saw fresh (want_place cells lock stripe) 0

-- a thread with so many entries, or so many revokes among them, isn't revoked any more
abbrev pub IsFull : Thread → Type 0
IsFull th = (most_entries ≤ th.entries) ⊎ (most_revokes ≤ th.revokes)

-- a revoke of the stripe is due: it is the first that the thread has held so long and that was seen to be wanted
pub record IsRevokeDue (cells : Board) (th : Thread) (since : List ℕ) (budget turn : ℕ) (fresh : List Note) (lock stripe : ℕ) : Type 0 where
  pub few_entries : th.entries < most_entries
  pub few_revokes : th.revokes < most_revokes
  pub has : has_object cells.code cells.setup (object.Weak lock stripe) ≡ true
  pub held : IsHeldLong th since budget turn lock stripe
  pub wanted : (w : ℕ) × Saw fresh (want_place cells lock stripe) w × (w ≢ 0)
  pub first : AreUnwanted cells th since budget turn fresh (8 * lock + stripe)

-- none is due: the stripes of the code's locks were all seen not to be wanted, or not held so long
abbrev pub NoRevokeIsDue : Board → Thread → List ℕ → (budget turn : ℕ) → List Note → Type 0
NoRevokeIsDue cells th since budget turn fresh = IsFull th ⊎ AreUnwanted cells th since budget turn fresh (8 * length cells.code.locks)

-- which stripe is to be revoked, or that none is
abbrev pub RevokeIs : Board → Thread → List ℕ → (budget turn : ℕ) → List Note → Option LockStripe → Type 0
RevokeIs cells th since budget turn fresh None = NoRevokeIsDue cells th since budget turn fresh
RevokeIs cells th since budget turn fresh (Some p) = IsRevokeDue cells th since budget turn fresh p.lock p.stripe

-- ---- the thread's own steps

-- the seat's thread has made its marks, and has come to this
pub record HasCome (old new : Seat) (told : Told) : Type 0 where
  pub view : view_of new ≡ with_thread (view_of old) told
  pub marks : new.marks ≡ 0

-- so many marks more are to be taken in
pub record HasMarked (old new : Seat) (more : ℕ) : Type 0 where
  pub view : view_of new ≡ view_of old
  pub marks : new.marks ≡ old.marks + more

-- the seat's thread has made its next action: a load, a store or a mark
abbrev pub AccessIs : (old new : Seat) → Action → Type 0
AccessIs old new (action.Load c) = (w : ℕ) × HasCome old new (after_load (view_of old).code (view_of old).setup (view_of old).from (pending (view_of old) old.marks) c w)
AccessIs old new (action.Store c w) = HasCome old new (after_store (view_of old).code (view_of old).setup (view_of old).from (pending (view_of old) old.marks) c w)
AccessIs old new action.Mark = HasMarked old new 1
AccessIs old new _ = ⊥

-- in which turns the stripes were taken last, after an attempt in this turn
abbrev pub since_after : List ℕ → (turn : ℕ) → Op → ObjId → Attempt → List ℕ
since_after since turn op.Take (object.Weak lock stripe) (attempt.Done answer number) = slice_set since (8 * lock + stripe) turn
since_after since turn op.Retake (object.Weak lock stripe) (attempt.Done answer number) = slice_set since (8 * lock + stripe) turn
since_after since turn o obj came = since

-- what the thread's own next action has come to
abbrev pub ActIs : (old new : Seat) → (since later : List ℕ) → (turn : ℕ) → Played → Type 0
ActIs old new since later turn played.Went = (a : Action) × HasNext old a × AccessIs old new a × (later ≡ since)
ActIs old new since later turn (played.Tried o obj came) = (way_of o obj ≡ Own) × HasNext old (action.Operate o obj) × AttemptIs None old new o obj came × (later ≡ since_after since turn o obj came)

-- ---- a turn

-- neither an end nor a revoke is due
pub record IsFree (cells : Board) (mid : Seat) (since : List ℕ) (budget turn : ℕ) (fresh : List Note) : Type 0 where
  pub no_end : NoEndIsDue cells (number_of mid) fresh (thread_of mid)
  pub no_revoke : NoRevokeIsDue cells (thread_of mid) since budget turn fresh

-- why an operation is attempted
abbrev pub IsCause : Way → Board → Seat → List ℕ → (budget turn : ℕ) → List Note → Op → ObjId → Type 0
IsCause Own cells mid since budget turn fresh o obj = IsFree cells mid since budget turn fresh × HasNext mid (action.Operate o obj)
IsCause (Revokes lock stripe) cells mid since budget turn fresh o obj = NoEndIsDue cells (number_of mid) fresh (thread_of mid) × IsRevokeDue cells (thread_of mid) since budget turn fresh lock stripe
IsCause Stops cells mid since budget turn fresh o obj = IsStopDue cells fresh (thread_of mid)
IsCause (Closes slot) cells mid since budget turn fresh o obj = (slot ≡ number_of mid) × IsCloseDue cells (number_of mid) fresh (thread_of mid)

-- what is done where the seat stands so, after these words were met
abbrev pub StepIs : Board → (mid new : Seat) → (since later : List ℕ) → (budget turn : ℕ) → List Note → Played → Type 0
StepIs cells mid new since later budget turn fresh (played.Tried o obj came) = IsCause (way_of o obj) cells mid since budget turn fresh o obj × AttemptIs None mid new o obj came × (later ≡ since_after since turn o obj came)
StepIs cells mid new since later budget turn fresh played.Went = IsFree cells mid since budget turn fresh × ActIs mid new since later turn played.Went

-- a turn of a thread that hasn't ended, which has seen that there is memory
pub record Plays (old new : Carrying) (p : Played) : Type 0 where
  pub open_thread : is_over old ≡ false
  pub mid : Seat
  pub fresh : List Note
  pub meets : Meets old.seat mid fresh
  pub memory : Saw fresh (memory_place old.cells.code old.cells.setup) 0
  pub lives : new.is_out ≡ false
  pub step : StepIs old.cells mid new.seat old.since new.since old.budget new.turns fresh p

-- a turn of a job that is over: it was over before, or this turn has met the memory word, which was set
pub record Rests (old new : Carrying) : Type 0 where
  pub over : is_over new ≡ true
  pub fresh : List Note
  pub meets : Meets old.seat new.seat fresh
  pub cause : (is_over old ≡ true) ⊎ SawNoMemory old.cells fresh
  pub since : new.since ≡ old.since

-- what a turn has come to: a step, or none of a job that is over
abbrev pub PlayedIs : (old new : Carrying) → Option Played → Type 0
PlayedIs old new None = Rests old new
PlayedIs old new (Some p) = Plays old new p

-- a turn has come to one of these, for its cause
abbrev pub HasPlayed : (old new : Carrying) → Type 0
HasPlayed old new = (p : Option Played) × PlayedIs old new p
