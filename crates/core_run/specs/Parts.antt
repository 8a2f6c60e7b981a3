-- What the two kinds of steps in the part of an entry leave: a load, a store or a mark of its thread, and then the operation
-- that makes the entry.
use Rattle.std.specs.Prelude.{◌≡◌, ℕ, ◌≤◌, ◌-◌, ◌^◌, Bool, true, false, if◌then◌else◌, ℤ, pos, List, [], ◌∷◌, length, Some, None, slice_get, slice_index}
use Rattle.sync_objects.specs.Setup.{SetupView}
use Rattle.sync_objects.specs.Words.{number_of}
use Rattle.sync_objects.specs.Names.{name_of}
use Rattle.sync_objects.specs.declared.entry.Entry.{Entry}
use Rattle.sync_objects.specs.declared.object.ObjId.{ObjId}
use Rattle.sync_objects.specs.declared.operation.Op.{Op}
use Rattle.sync_objects.specs.declared.operation.Op.TheVariants as op
use Rattle.word_semantics.specs.declared.event.Action.TheVariants as action
use Rattle.core_run.specs.Kept.{AreSound}
use Rattle.flow_code.specs.declared.code.Code.{Code}
use Rattle.word_semantics.specs.declared.event.Action.{Action}
use Rattle.flow_code.specs.Threads.{Thread}
use Rattle.flow_code.specs.Settle.{next}
use Rattle.core_run.specs.Machine.{Told, effect_of, action_effect, marked, accessed, operated, entry_of}
use Rattle.core_run.specs.Outside.{is_outside}
use Rattle.core_run.specs.Words.{cells_of, has_object, place_of}
use Rattle.sync_objects.specs.Advance.{NotAllowed, Advances, advanced}
use Rattle.core_run.specs.declared.parts.Own.{Own}
use Rattle.core_run.specs.declared.parts.Own.TheVariants as own
use Rattle.core_run.specs.declared.parts.Made.{Made}
use Rattle.core_run.specs.declared.parts.Made.TheVariants as made
use Rattle.run_theory.specs.Labels.{Go, label_of}
use Rattle.run_theory.specs.Same.{same_entry}
use Rattle.run_theory.specs.Steps.{Effect, Refused, Marks, Loads, Stores, Operates, Becomes, Outcome, Blocked, Leaves, load_outcome, change_outcome}

-- what an effect leaves, if it is no operation
abbrev pub own_outcome : List ℕ → Effect Told → Outcome Told
own_outcome ws Refused = Blocked
own_outcome ws (Marks th) = Leaves ws th
own_outcome ws (Loads c next) = load_outcome ws next (slice_get ws c)
own_outcome ws (Stores c w th) = change_outcome ws c (λ _. Becomes w (pos 0) th) (slice_get ws c)
own_outcome ws (Operates e change) = Blocked

-- what an effect leaves, if it is the operation that makes this entry
abbrev pub made_outcome : ℕ → Entry → List ℕ → Effect Told → Outcome Told
made_outcome cells want ws (Operates e change) = if same_entry e want then change_outcome ws (place_of cells e.obj) change (slice_get ws (place_of cells e.obj)) else Blocked
made_outcome cells want ws Refused = Blocked
made_outcome cells want ws (Marks th) = Blocked
made_outcome cells want ws (Loads c next) = Blocked
made_outcome cells want ws (Stores c w th) = Blocked

-- what a step of a thread in state th, whose next action is a, has come to
abbrev pub OwnOf : Code → SetupView → ℕ → Told → Thread → Action → List ℕ → List ℕ → Thread → Own → Type 0
OwnOf code s t told th a ws ws1 th1 own.Stays = (is_outside code s a ≡ false) × (own_outcome ws (action_effect code s t told th a) ≡ Blocked)
OwnOf code s t told th a ws ws1 th1 own.Outside = (is_outside code s a ≡ true) × (own_outcome ws (action_effect code s t told th a) ≡ Blocked)
OwnOf code s t told th a ws ws1 th1 own.Marked = own_outcome ws (action_effect code s t told th a) ≡ Leaves ws1 (marked told th1)
OwnOf code s t told th a ws ws1 th1 (own.Accessed access) = own_outcome ws (action_effect code s t told th a) ≡ Leaves ws1 (accessed told th1 access)

-- what a thread's own step has come to: none was to be made, none could be made of a cell that the machine doesn't have, a mark,
-- or an access
abbrev pub OwnIs : Code → SetupView → ℕ → Told → List ℕ → List ℕ → Thread → Own → Type 0
OwnIs code s t told ws ws1 th1 own.Stays = (is_outside code s (next code s t told.thread) ≡ false) × (own_outcome ws (effect_of code s (Go t) told) ≡ Blocked)
OwnIs code s t told ws ws1 th1 own.Outside = (is_outside code s (next code s t told.thread) ≡ true) × (own_outcome ws (effect_of code s (Go t) told) ≡ Blocked)
OwnIs code s t told ws ws1 th1 own.Marked = own_outcome ws (effect_of code s (Go t) told) ≡ Leaves ws1 (marked told th1)
OwnIs code s t told ws ws1 th1 (own.Accessed access) = own_outcome ws (effect_of code s (Go t) told) ≡ Leaves ws1 (accessed told th1 access)

-- the pieces that were printed
abbrev pub printed_by : Made → List (List ℕ)
printed_by made.Refused = []
printed_by made.Silent = []
printed_by (made.Printed bytes) = bytes ∷ []

-- the entry with the number of operations that its object had
abbrev pub noted : Code → SetupView → List ℕ → Entry → ℕ
noted code s ws e = number_of (slice_index ws (place_of (cells_of code s) e.obj))

-- the same of an effect, where just this entry is wanted
abbrev pub MadeOutcome : Code → SetupView → Told → Entry → List ℕ → List ℕ → Thread → Made → Effect Told → Type 0
MadeOutcome code s told e ws ws1 th1 made.Refused effect = made_outcome (cells_of code s) e ws effect ≡ Blocked
MadeOutcome code s told e ws ws1 th1 made.Silent effect = made_outcome (cells_of code s) e ws effect ≡ Leaves ws1 (operated told th1 (record { entry = e; number = noted code s ws e }) [])
MadeOutcome code s told e ws ws1 th1 (made.Printed bytes) effect = made_outcome (cells_of code s) e ws effect ≡ Leaves ws1 (operated told th1 (record { entry = e; number = noted code s ws e }) (bytes ∷ []))

-- what the operation for an entry has come to: it wasn't allowed, it was made, or it was made and has printed
abbrev pub MadeIs : Code → SetupView → Told → Entry → List ℕ → List ℕ → Thread → Made → Type 0
MadeIs code s told e ws ws1 th1 m = MadeOutcome code s told e ws ws1 th1 m (effect_of code s (label_of e) told)

-- the sizes and the words of objects stay
pub record KeepsObjects (cells : ℕ) (ws ws1 : List ℕ) : Type 0 where
  pub len : length ws1 ≡ length ws
  pub objects : (i : ℕ) → cells ≤ i → slice_get ws1 i ≡ slice_get ws i

-- the one operation that adds to what the program prints
abbrev pub is_print : Op → Bool
is_print op.Print = true
is_print _ = false

-- what the operation that comes next in a thread in state th has come to
abbrev pub PerformedIs : Code → SetupView → ℕ → Told → Thread → Op → ObjId → List ℕ → List ℕ → Thread → Made → Type 0
PerformedIs code s t told th o obj ws ws1 th1 m = MadeOutcome code s told (entry_of t th (name_of o) obj) ws ws1 th1 m (action_effect code s t told th (action.Operate o obj))

-- the words of objects can be, and have numbers below the greatest
abbrev pub AreUsable : Code → SetupView → List ℕ → Type 0
AreUsable code s ws = AreSound code s (2 ^ 32 - 2) ws

-- the operation isn't allowed at the object's word, or the machine has no such object
pub data LacksWord (code : Code) (s : SetupView) (t : ℕ) (o : Op) (obj : ObjId) (ws : List ℕ) : Type 0 where
  no_object : has_object code s obj ≡ false → LacksWord code s t o obj ws
  no_word : slice_get ws (place_of (cells_of code s) obj) ≡ None → LacksWord code s t o obj ws
  no_row : (w : ℕ) → slice_get ws (place_of (cells_of code s) obj) ≡ Some w → advanced o t w ≡ NotAllowed → LacksWord code s t o obj ws

-- the operation is allowed at the object's word, and this is the word after it
pub record HasWord (code : Code) (s : SetupView) (t : ℕ) (o : Op) (obj : ObjId) (ws : List ℕ) (next : ℕ) : Type 0 where
  pub has : has_object code s obj ≡ true
  pub word : ℕ
  pub at : slice_get ws (place_of (cells_of code s) obj) ≡ Some word
  pub answer : ℤ
  pub moves : advanced o t word ≡ Advances next answer
