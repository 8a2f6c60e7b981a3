-- Seats of the table as callers see them.
use Rattle.std.specs.Prelude.{◌≡◌, ◌≢◌, ℕ, ℤ, ◌<◌, List, [], ◌∷◌, length, Option, Some, None, slice_get, ◌⊎◌, Bool, true, false, not, ◌==◌}
use Rattle.atomic_table.specs.Seated.{TableId}
use Rattle.sync_objects.specs.Setup.{SetupView}
use Rattle.sync_objects.specs.Advance.{advanced, NotAllowed, Advances}
use Rattle.sync_objects.specs.Words.{number_of}
use Rattle.sync_objects.specs.declared.object.ObjId.{ObjId}
use Rattle.sync_objects.specs.declared.operation.Op.{Op}
use Rattle.word_semantics.specs.declared.event.Action.{Action}
use Rattle.flow_code.specs.declared.code.Code.{Code}
use Rattle.core_run.specs.Machine.{start_told}
use Rattle.core_run.specs.Words.{cells_of, place_of}
use Rattle.shared_cells.specs.Views.{SeatView, looked, missed, never}
use Rattle.shared_cells.specs.Threads.{IsNext, IsDueIn}
use Rattle.shared_cells.specs.Rule.{Board}
use Rattle.shared_cells.specs.Plays.{Mine, IsReached, IsReachedWith, GoesOn, Makes}
use Rattle.shared_cells.specs.declared.seat.Seat.{Seat}
use Rattle.shared_cells.specs.declared.attempt.Attempt.{Attempt}
use Rattle.shared_cells.specs.declared.attempt.Attempt.TheVariants as attempt

-- what the seat knows
abbrev pub view_of : Seat → SeatView
view_of seat = seat.seat.me.0

-- the seat is one of this table, for the thread of this number alone
pub record Sits (cells : Board) (table : TableId) (me : Mine) (thread : ℕ) : Type 0 where
  pub table_is : table ≡ cells.table
  pub no_slot : me.1 ≡ []
  pub thread_is : me.0.from ≡ thread
  pub alone : length me.0.carried ≡ 1
  pub within : thread < cells.setup.slots
  pub code_is : me.0.code ≡ cells.code
  pub setup_is : me.0.setup ≡ cells.setup

-- the seat was made with these cells
abbrev pub IsSeatOf : Board → Seat → Type 0
IsSeatOf cells seat = Sits cells seat.seat.table_id seat.seat.me seat.thread

-- after the marks that it has made since its last step, this comes next in the seat's thread
abbrev pub HasNext : Seat → Action → Type 0
HasNext seat a = IsNext (view_of seat) seat.marks a

-- after these marks the seat's thread may make the operation, whatever its object's word is
abbrev pub HasDue : Seat → Op → ObjId → Type 0
HasDue seat o obj = IsDueIn (view_of seat) seat.marks o obj

-- where the word of an object stands, by what the seat knows
abbrev pub place_in : SeatView → ObjId → ℕ
place_in v obj = place_of (cells_of v.code v.setup) obj

-- ---- what an attempt has come to

-- an operation with this number is asked for; None asks for any number
abbrev pub is_asked : Option ℕ → ℕ → Bool
is_asked None number = true
is_asked (Some asked) number = number == asked

-- the object's word allowed the operation, which was made with a number that is asked for
pub record IsDone (at : Option ℕ) (old new : Seat) (o : Op) (obj : ObjId) (answer : ℤ) (number : ℕ) : Type 0 where
  pub seen : ℕ
  pub next : ℕ
  pub moves : advanced o (view_of old).from seen ≡ Advances next answer
  pub number_is : number ≡ number_of seen
  pub asked : is_asked at number ≡ true
  pub later : GoesOn (view_of old) (place_in (view_of old) obj) seen
  pub makes : Makes (looked (view_of old) (place_in (view_of old) obj) seen) (place_in (view_of old) obj) old.marks o obj seen answer (view_of new)
  pub marks : new.marks ≡ 0

-- the object's word doesn't allow the operation, or not with a number that is asked for
pub record IsRefused (at : Option ℕ) (old new : Seat) (o : Op) (obj : ObjId) (seen : ℕ) : Type 0 where
  pub refused : (advanced o (view_of old).from seen ≡ NotAllowed) ⊎ (is_asked at (number_of seen) ≡ false)
  pub found : IsReachedWith (view_of old) (place_in (view_of old) obj) seen
  pub later : GoesOn (view_of old) (place_in (view_of old) obj) seen
  pub view : view_of new ≡ looked (view_of old) (place_in (view_of old) obj) seen
  pub marks : new.marks ≡ old.marks

-- the object's word was another one when it was to be changed than when it was looked at
pub record HasMoved (old new : Seat) (obj : ObjId) (seen : ℕ) : Type 0 where
  pub was : ℕ
  pub differs : seen ≢ was
  pub found : IsReachedWith (view_of old) (place_in (view_of old) obj) was
  pub later : GoesOn (view_of old) (place_in (view_of old) obj) was
  pub view : view_of new ≡ missed (looked (view_of old) (place_in (view_of old) obj) was) (place_in (view_of old) obj) seen
  pub marks : new.marks ≡ old.marks

-- made; or refused by the word, or the word was changed between
abbrev pub AttemptIs : Option ℕ → (old new : Seat) → Op → ObjId → Attempt → Type 0
AttemptIs at old new o obj (attempt.Done answer number) = IsDone at old new o obj answer number
AttemptIs at old new o obj (attempt.NotYet seen) = IsRefused at old new o obj seen ⊎ HasMoved old new obj seen

-- ---- what a look tells

-- any number but 0 counts as set, as in C (C99 6.3.1.2)
abbrev pub is_set : ℕ → Bool
is_set value = not (value == 0)

-- the word was looked at, and this is whether it is set
pub record Tells (old new : Seat) (word : ℕ) (set : Bool) : Type 0 where
  pub value : ℕ
  pub view : view_of new ≡ looked (view_of old) word value
  pub is : set ≡ is_set value
  pub marks : new.marks ≡ old.marks

-- nothing has changed
pub record IsSameSeat (old new : Seat) : Type 0 where
  pub view : view_of new ≡ view_of old
  pub marks : new.marks ≡ old.marks

-- ---- all seats

-- these are the seats of the cells, one for each thread, in order
pub record AreSeats (cells : Board) (seats : List Seat) : Type 0 where
  pub count : length seats ≡ cells.setup.slots
  pub each : (k : ℕ) (seat : Seat) → slice_get seats k ≡ Some seat → IsSeatOf cells seat × ((view_of seat).from ≡ k)

-- what the seat of a thread knows at the start
abbrev pub start_view : Code → SetupView → ℕ → SeatView
start_view code s k = record { code = code; setup = s; from = k; carried = start_told code s k ∷ []; notes = []; positions = []; met = never }

-- each seat's thread is at its start, which is that of a state that can be reached, and has no marks to come
abbrev pub AreAtStart : Code → SetupView → List Seat → Type 0
AreAtStart code s seats = (k : ℕ) (seat : Seat) → slice_get seats k ≡ Some seat → (view_of seat ≡ start_view code s k) × IsReached (view_of seat) × (seat.marks ≡ 0)
