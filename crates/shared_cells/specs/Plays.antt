-- What each kind of step on the table tells of the seat that made it, and of what it found.
use Rattle.std.specs.Prelude.{◌≡◌, ◌≢◌, ⊤, ℕ, ℤ, ◌<◌, ◌≤◌, length, Some, slice_get}
use mathlib.Core.Option.{Option, some, none}
use Rattle.atomic_table.specs.Table.{Me, Step}
use Rattle.sync_objects.specs.Words.{number_of}
use Rattle.sync_objects.specs.declared.object.ObjId.{ObjId}
use Rattle.sync_objects.specs.declared.operation.Op.{Op}
use Rattle.word_semantics.specs.declared.event.Action.TheVariants as action
use Rattle.core_run.specs.Histories.{IsReachable}
use Rattle.core_run.specs.Machine.{Told}
use Rattle.core_run.specs.Words.{cells_of}
use Rattle.run_theory.specs.Steps.{State}
use Rattle.shared_cells.specs.Views.{Note, SeatView, looked, missed, departing, lowered, never}
use Rattle.shared_cells.specs.Threads.{pending, IsNext, loaded, stored, made}
use Rattle.shared_cells.specs.Words.{objects_end, first_words, spot_of, HasGoneOn}
use Rattle.shared_cells.specs.Rule.{Carries}
use Rattle.shared_cells.specs.declared.asked.Asked.{Asked}

-- what the seat that makes a step knows: its view
abbrev pub Mine : Type 0
Mine = Me Asked SeatView

-- some state that can be reached has the threads that the view carries
abbrev pub IsReached : SeatView → Type 0
IsReached v = (st : State Told) × IsReachable v.code v.setup st × Carries st v

-- and it has this value at this word
abbrev pub IsReachedWith : SeatView → (word value : ℕ) → Type 0
IsReachedWith v word value = (st : State Told) × IsReachable v.code v.setup st × Carries st v × (slice_get st.words word ≡ Some value)

-- the word of an object has gone on from all values that these notes have of it
abbrev pub GoesOn : SeatView → (word value : ℕ) → Type 0
GoesOn v word value = (k : ℕ) (n : Note) → slice_get v.notes k ≡ Some n → n.word ≡ word → HasGoneOn n.value value

-- the place has this spot on the table
abbrev pub IsSpotOf : SeatView → (place spot : ℕ) → Type 0
IsSpotOf v place spot = (place < length (first_words v.code v.setup)) × (spot ≡ spot_of v.code v.setup place)

-- a step on the word at a spot tells this of the spot's place
abbrev pub of_place : (ℕ → Mine → ℕ → Mine → Type 0) → Step Asked → Mine → ℕ → Mine → Type 0
of_place P step me found after = (place : ℕ) → IsSpotOf me.0 place step.word → P place me found after

-- the seat's thread has made its marks and the load of this cell, which found this word
pub record LoadsAt (cell : ℕ) (me : Mine) (found : ℕ) (after : Mine) : Type 0 where
  pub slots : after.1 ≡ me.1
  pub view : (n : ℕ) → IsNext me.0 n (action.Load cell) → after.0 ≡ loaded me.0 n cell found
  pub reached : IsReached after.0

abbrev pub LoadsCell : Step Asked → Mine → ℕ → Mine → Type 0
LoadsCell = of_place LoadsAt

-- the seat's thread has made its marks and the store of this word into this cell
pub record StoresAt (value cell : ℕ) (me : Mine) (written : ℕ) (after : Mine) : Type 0 where
  pub slots : after.1 ≡ me.1
  pub view : (n : ℕ) → IsNext me.0 n (action.Store cell value) → after.0 ≡ stored me.0 n cell value
  pub reached : IsReached after.0

abbrev pub StoresCell : Step Asked → Mine → ℕ → Mine → Type 0
StoresCell step = of_place (StoresAt step.first) step

-- the seat's thread has made its marks and the operation, which was allowed in a state that can be reached
pub record Makes (v : SeatView) (place : ℕ) (n : ℕ) (o : Op) (obj : ObjId) (seen : ℕ) (answer : ℤ) (after : SeatView) : Type 0 where
  pub view : after ≡ made v n o obj answer (number_of seen)
  pub reached : IsReached after
  pub state : State Told
  pub before : IsReachable v.code v.setup state
  pub thread : slice_get state.threads v.from ≡ Some (pending v n)
  pub word : slice_get state.words place ≡ Some seen

-- an exchange has made the operation, or has found another word than it asked for
pub record ExchangesAt (it : Asked) (first place : ℕ) (me : Mine) (found : ℕ) (after : Mine) : Type 0 where
  pub slots : after.1 ≡ me.1
  pub done : found ≡ first → Makes me.0 place it.marks it.op it.obj first it.answer after.0
  pub other : found ≢ first → after.0 ≡ missed me.0 place found

-- a step that says nothing claims nothing
abbrev pub if_said : Option Asked → (Asked → Type 0) → Type 0
if_said none P = ⊤
if_said (some it) P = P it

-- of an exchange that says for which operation it is
abbrev pub exchanging : Step Asked → Mine → ℕ → Mine → Type 0
exchanging step me found after = if_said step.said (λ it. of_place (ExchangesAt it step.first) step me found after)

-- a look at a word; that of an object was found in a state that can be reached
pub record LooksAt (word : ℕ) (me : Mine) (found : ℕ) (after : Mine) : Type 0 where
  pub slots : after.1 ≡ me.1
  pub view : after.0 ≡ looked me.0 word found
  pub state : cells_of me.0.code me.0.setup ≤ word → word < objects_end me.0.code me.0.setup → IsReachedWith me.0 word found
  pub later : cells_of me.0.code me.0.setup ≤ word → word < objects_end me.0.code me.0.setup → GoesOn me.0 word found

abbrev pub Looks : Step Asked → Mine → ℕ → Mine → Type 0
Looks = of_place LooksAt

-- a look at the departure word
pub record DepartsAt (word : ℕ) (me : Mine) (found : ℕ) (after : Mine) : Type 0 where
  pub slots : after.1 ≡ me.1
  pub view : after.0 ≡ departing me.0 word found
  pub below : found ≤ me.0.met
  pub low : found ≤ never

abbrev pub Departs : Step Asked → Mine → ℕ → Mine → Type 0
Departs = of_place DepartsAt

-- a position was put into the departure word
pub record Lowers (step : Step Asked) (me : Mine) (found : ℕ) (after : Mine) : Type 0 where
  pub slots : after.1 ≡ me.1
  pub view : after.0 ≡ lowered me.0 step.first found
  pub below : found ≤ me.0.met
  pub low : found ≤ never

-- a store of a value that the seat has met then
pub record PutsAt (value word : ℕ) (me : Mine) (written : ℕ) (after : Mine) : Type 0 where
  pub slots : after.1 ≡ me.1
  pub view : after.0 ≡ looked me.0 word value

abbrev pub Puts : Step Asked → Mine → ℕ → Mine → Type 0
Puts step = of_place (PutsAt step.first) step

-- a step that tells nothing
pub record Stays (step : Step Asked) (me : Mine) (found : ℕ) (after : Mine) : Type 0 where
  pub slots : after.1 ≡ me.1
  pub view : after.0 ≡ me.0
