-- What a checkpoint holds of a state of the machine, and the state that it stands for.
use Rattle.std.specs.Prelude.{◌≡◌, ℕ, zero, suc, ◌+◌, ◌*◌, ◌<◌, ◌≤◌, ◌^◌, ◌==◌, true, if◌then◌else◌, List, [], ◌∷◌, ◌++◌, length, map, replicate, take, Option, Some, None, slice_get, slice_index, slice_set}
use Rattle.std.specs.List.{filter_map, flat_map}
use Rattle.sync_objects.specs.Setup.{SetupView}
use Rattle.sync_objects.specs.Names.{object_kind}
use Rattle.sync_objects.specs.Sound.{IsSoundWord}
use Rattle.sync_objects.specs.Start.{start_word}
use Rattle.sync_objects.specs.Words.{number_of, state_of, word_of}
use Rattle.sync_objects.specs.declared.object.ObjId.{ObjId}
use Rattle.sync_objects.specs.declared.object.ObjId.TheVariants as object
use Rattle.flow_code.specs.declared.code.Code.{Code}
use Rattle.flow_code.specs.Ranges.{InRange}
use Rattle.thread_interpreter.specs.Flows.{most_extra}
use Rattle.thread_interpreter.specs.Parts.{part_of, thread_of}
use Rattle.thread_interpreter.specs.declared.part.ThreadPart.{ThreadPart}
use Rattle.core_run.specs.Words.{cells_of, has_object, place_of, start_objects}
use Rattle.core_run.specs.Machine.{Told}
use Rattle.core_run.specs.Kept.{most_operations}
use Rattle.run_theory.specs.Steps.{State}
use Rattle.snapshots.specs.declared.snapshot.Snapshot.{Snapshot}

-- ---- the order of objects

-- so many numbers, from the first on
abbrev pub numbers_from : ℕ → ℕ → List ℕ
numbers_from first zero = []
numbers_from first (suc n) = first ∷ numbers_from (first + 1) n

-- the eight stripes of a lock
abbrev pub stripes_in_order : ℕ → List ObjId
stripes_in_order lock = map (λ stripe. object.Weak lock stripe) (numbers_from 0 8)

-- the objects of a machine, in the order in which a checkpoint lists them: by kind, then by cell, by lock and stripe, or
-- by slot
abbrev pub objects_in_order : Code → SetupView → List ObjId
objects_in_order code s =
    map (λ cell. object.Mutex cell) (numbers_from 0 (cells_of code s))
    ++ map (λ cell. object.Cond cell) (numbers_from 0 (cells_of code s))
    ++ map (λ cell. object.Barrier cell) (numbers_from 0 (cells_of code s))
    ++ flat_map stripes_in_order (numbers_from 0 (length code.locks))
    ++ map (λ slot. object.Slot slot) (numbers_from 0 s.slots)
    ++ (object.Threads ∷ object.Halt ∷ object.Input ∷ object.Output ∷ [])
    ++ map (λ cell. object.Rw cell) (numbers_from 0 (cells_of code s))

-- ---- the snapshot of a state

-- the cells whose word isn't 0, where these are the words from one cell on
abbrev pub cells_from : ℕ → List ℕ → List (ℕ × ℕ)
cells_from cell [] = []
cells_from cell (w ∷ ws) = if w == 0 then cells_from (cell + 1) ws else (cell, w) ∷ cells_from (cell + 1) ws

-- an object whose word isn't the one at the start: its number and its state
abbrev pub object_with : ObjId → ℕ → Option (ObjId × ℕ × ℕ)
object_with o w = if w == start_word o then None else Some (o, number_of w, state_of w)

-- the objects whose words aren't those at the start
abbrev pub objects_at : Code → SetupView → List ℕ → List (ObjId × ℕ × ℕ)
objects_at code s words = filter_map (λ o. object_with o (slice_index words (place_of (cells_of code s) o))) (objects_in_order code s)

-- a state after so many entries, as a checkpoint keeps it
abbrev pub snapshot_of : Code → SetupView → ℕ → State Told → Snapshot
snapshot_of code s at st = record {
  at = at;
  cells = cells_from 0 (take (cells_of code s) st.words);
  objects = objects_at code s st.words;
  threads = map (λ (told : Told). part_of told.thread) st.threads;
}

-- ---- the state of a snapshot

-- the words once these cells have theirs
abbrev pub with_cells : List (ℕ × ℕ) → List ℕ → List ℕ
with_cells [] words = words
with_cells (c ∷ cs) words = with_cells cs (slice_set words c.0 c.1)

-- the words once these objects have theirs, for so many cells
abbrev pub with_objects : ℕ → List (ObjId × ℕ × ℕ) → List ℕ → List ℕ
with_objects cells [] words = words
with_objects cells (o ∷ os) words = with_objects cells os (slice_set words (place_of cells o.0) (word_of o.1 o.2))

-- the words of a snapshot: 0 in each cell and the start word of each object, but where it lists another
abbrev pub words_of : Code → SetupView → Snapshot → List ℕ
words_of code s x = with_objects (cells_of code s) x.objects (with_cells x.cells (replicate (cells_of code s) 0 ++ start_objects code s))

-- a thread that has left no entries, accesses or printed pieces since
abbrev pub told_of : ThreadPart → Told
told_of p = record { thread = thread_of p; entries = []; accesses = []; pieces = [] }

-- the state that a snapshot stands for
abbrev pub resumed_state : Code → SetupView → Snapshot → State Told
resumed_state code s x = record { words = words_of code s x; threads = map told_of x.threads }

-- ---- snapshots from which a run can go on

-- the machine has the object, and the word is one that it can have
pub record IsListedObject (code : Code) (s : SetupView) (o : ObjId × ℕ × ℕ) : Type 0 where
  pub there : has_object code s o.0 ≡ true
  pub few : o.1 ≤ most_operations
  pub short : o.2 < 2 ^ 32
  pub sound : IsSoundWord (object_kind o.0) (word_of o.1 o.2)

-- a run can go on from the snapshot by a log of n entries: it stands at one of these or after them, there is a thread for
-- each slot, whose numbers are in range, and all cells and objects are those of the machine
pub record IsResumable (code : Code) (s : SetupView) (n : ℕ) (x : Snapshot) : Type 0 where
  pub within : x.at ≤ n
  pub threads : length x.threads ≡ s.slots
  pub in_range : (t : ℕ) (p : ThreadPart) → slice_get x.threads t ≡ Some p → InRange code s most_extra t (thread_of p)
  pub cells : (k : ℕ) (c : ℕ × ℕ) → slice_get x.cells k ≡ Some c → c.0 < cells_of code s
  pub objects : (k : ℕ) (o : ObjId × ℕ × ℕ) → slice_get x.objects k ≡ Some o → IsListedObject code s o
