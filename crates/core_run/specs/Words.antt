-- The words of a machine: those of its cells, and after them those of its objects.
use Rattle.std.specs.Prelude.{ℕ, ◌+◌, ◌*◌, ◌==◌, nat_lt, ◌&&◌, Bool, true, if◌then◌else◌, List, [], ◌∷◌, ◌++◌, length, replicate}
use Rattle.sync_objects.specs.Setup.{SetupView}
use Rattle.sync_objects.specs.Start.{start_word}
use Rattle.sync_objects.specs.declared.object.ObjId.{ObjId}
use Rattle.sync_objects.specs.declared.object.ObjId.TheVariants as object
use Rattle.rr_base.specs.declared.layout.CellKind.{CellKind}
use Rattle.rr_base.specs.declared.layout.CellKind.TheVariants as kind
use Rattle.flow_code.specs.declared.code.Code.{Code}
use Rattle.word_semantics.specs.Operators.{based}

-- how many cells there are: two hand-off cells for each slot, the globals, and an arena for each slot
abbrev pub cells_of : Code → SetupView → ℕ
cells_of code s = 2 * s.slots + length code.globals + s.slots * s.cells

-- which objects there are
abbrev pub has_object : Code → SetupView → ObjId → Bool
has_object code s (object.Mutex cell) = nat_lt cell (cells_of code s)
has_object code s (object.Cond cell) = nat_lt cell (cells_of code s)
has_object code s (object.Barrier cell) = nat_lt cell (cells_of code s)
has_object code s (object.Rw cell) = nat_lt cell (cells_of code s)
has_object code s (object.Weak lock stripe) = nat_lt lock (length code.locks) && nat_lt stripe 8
has_object code s (object.Slot k) = nat_lt k s.slots
has_object code s object.Threads = true
has_object code s object.Halt = true
has_object code s object.Input = true
has_object code s object.Output = true

-- where an object's word stands among all words, by the number of cells: for each cell there is one place for a mutex, one
-- for a condition, one for a barrier and one for a read-write lock, then there are the slots, the single objects, and eight
-- stripes for each lock
abbrev pub place_of : ℕ → ObjId → ℕ
place_of cells (object.Mutex cell) = cells + cell
place_of cells (object.Cond cell) = 2 * cells + cell
place_of cells (object.Barrier cell) = 3 * cells + cell
place_of cells (object.Rw cell) = 4 * cells + cell
place_of cells (object.Slot k) = 5 * cells + k
place_of cells object.Threads = 5 * cells + 16
place_of cells object.Halt = 5 * cells + 17
place_of cells object.Input = 5 * cells + 18
place_of cells object.Output = 5 * cells + 19
place_of cells (object.Weak lock stripe) = 5 * cells + 20 + 8 * lock + stripe

-- the start word of a global cell: an address counts its base from cell 0 in place of the first global cell
abbrev pub start_global : ℕ → CellKind → ℕ → ℕ
start_global slots kind.Pointer w = if w == 0 then 0 else based slots w
start_global slots _ w = w

-- the values of initialized objects (C99 6.7.8), for this many slots
abbrev pub start_globals : ℕ → List CellKind → List ℕ → List ℕ
start_globals slots [] ws = ws
start_globals slots (k ∷ ks) [] = []
start_globals slots (k ∷ ks) (w ∷ ws) = start_global slots k w ∷ start_globals slots ks ws

-- the words of the cells at the start: 0, but for the globals
abbrev pub start_cells : Code → SetupView → List ℕ
start_cells code s = replicate (2 * s.slots) 0 ++ start_globals s.slots code.global_kinds code.globals ++ replicate (s.slots * s.cells) 0

-- the words of the objects at the start, for so many cells and locks; a mutex, a condition, a barrier, a read-write lock,
-- an idle slot and a stripe have the word 0
abbrev pub objects_from : ℕ → ℕ → List ℕ
objects_from cells locks =
    replicate (4 * cells) 0
    ++ start_word (object.Slot 0) ∷ replicate 15 0
    ++ start_word object.Threads ∷ start_word object.Halt ∷ start_word object.Input ∷ start_word object.Output ∷ []
    ++ replicate (8 * locks) 0

-- the words of mutexes, stripes and all other objects at the start
abbrev pub start_objects : Code → SetupView → List ℕ
start_objects code s = objects_from (cells_of code s) (length code.locks)

-- the cells' words at the start, and after them the objects'
abbrev pub start_words : Code → SetupView → List ℕ
start_words code s = start_cells code s ++ start_objects code s
