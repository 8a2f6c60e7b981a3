-- What every step of the machine keeps: words of objects that can be, and threads whose numbers are in range.
use Rattle.std.specs.Prelude.{◌≡◌, ◌≢◌, ℕ, suc, ◌+◌, false, ◌^◌, ◌≤◌, true, if◌then◌else◌, List, [], ◌∷◌, length, Some, slice_get}
use Rattle.sync_objects.specs.Setup.{SetupView}
use Rattle.sync_objects.specs.Names.{object_kind, is_ending}
use Rattle.sync_objects.specs.Sound.{IsSoundWord}
use Rattle.sync_objects.specs.Words.{number_of}
use Rattle.sync_objects.specs.declared.entry.Entry.{Entry}
use Rattle.sync_objects.specs.declared.entry.Noted.{Noted}
use Rattle.sync_objects.specs.declared.operation.OpName.TheVariants as name
use Rattle.sync_objects.specs.declared.object.ObjId.{ObjId}
use Rattle.flow_code.specs.declared.code.Code.{Code}
use Rattle.flow_code.specs.Ranges.{InRange}
use Rattle.core_run.specs.Words.{cells_of, has_object, place_of, start_words}
use Rattle.core_run.specs.Machine.{Told}
use Rattle.run_theory.specs.Steps.{State}

-- each object's word is one that its kind can have, after at most so many operations
pub record AreSound (code : Code) (s : SetupView) (most : ℕ) (words : List ℕ) : Type 0 where
  pub each : (o : ObjId) (w : ℕ) → has_object code s o ≡ true → slice_get words (place_of (cells_of code s) o) ≡ Some w → IsSoundWord (object_kind o) w × (number_of w ≤ most)

-- each thread's numbers are in range
pub record AreInRange (code : Code) (s : SetupView) (threads : List Told) : Type 0 where
  pub each : (t : ℕ) (told : Told) → slice_get threads t ≡ Some told → InRange code s 0 t told.thread

-- how many of these entries are ending ones
abbrev pub endings_in : List Noted → ℕ
endings_in [] = 0
endings_in (x ∷ xs) = if is_ending x.entry.op then suc (endings_in xs) else endings_in xs

-- an entry of thread t as a log allows it: the machine has its object, and it comes within the limit, where a thread's ending
-- entries and the revokes of its stripes may come one event later
pub record IsAllowed (code : Code) (s : SetupView) (t : ℕ) (x : Entry) : Type 0 where
  pub thread : x.thread ≡ t
  pub object : has_object code s x.obj ≡ true
  pub count : x.count ≤ s.limit + 1
  pub early : is_ending x.op ≡ false → x.op ≢ name.Revoke → x.count ≤ s.limit

-- what a log allows of each thread: at most two of its entries are ending ones, and each entry is allowed
pub record IsLogged (code : Code) (s : SetupView) (t : ℕ) (told : Told) : Type 0 where
  pub few_endings : endings_in told.entries ≤ 2
  pub allowed : (k : ℕ) (x : Noted) → slice_get told.entries k ≡ Some x → IsAllowed code s t x.entry

-- the most operations of an object
abbrev pub most_operations : ℕ
most_operations = 2 ^ 25

-- what holds of each state that can be reached: there is a thread for each slot and a word for each cell and object, the
-- threads' numbers are in range, a log allows their entries, and no object has had more than 2^25 operations
pub record IsKept (code : Code) (s : SetupView) (st : State Told) : Type 0 where
  pub threads : length st.threads ≡ s.slots
  pub words : length st.words ≡ length (start_words code s)
  pub in_range : AreInRange code s st.threads
  pub logged : (t : ℕ) (told : Told) → slice_get st.threads t ≡ Some told → IsLogged code s t told
  pub sound : AreSound code s most_operations st.words
