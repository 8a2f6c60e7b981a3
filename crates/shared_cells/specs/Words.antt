-- The words of the table: those of the machine, then a want word for each stripe, the departure word and the memory word.
use Rattle.std.specs.Prelude.{◌≡◌, ℕ, ◌+◌, ◌-◌, ◌*◌, ◌<◌, ◌≤◌, List, [], ◌∷◌, ◌++◌, length, replicate, Some, slice_get, slice_index, min}
use Rattle.sync_objects.specs.Setup.{SetupView}
use Rattle.sync_objects.specs.Words.{number_of}
use Rattle.flow_code.specs.declared.code.Code.{Code}
use Rattle.core_run.specs.Words.{cells_of, start_words}
use Rattle.shared_cells.specs.Views.{Note, never}

-- how many words the machine has, and so the place of the first want word
abbrev pub objects_end : Code → SetupView → ℕ
objects_end code s = length (start_words code s)

-- after the want words: each weak lock has 8 of them
abbrev pub departure_place : Code → SetupView → ℕ
departure_place code s = objects_end code s + 8 * length code.locks

-- of the table's last word, which is 0 while there is memory
abbrev pub memory_place : Code → SetupView → ℕ
memory_place code s = departure_place code s + 1

-- the words at the start: no stripe is wanted, nothing has departed, and there is memory
abbrev pub first_words : Code → SetupView → List ℕ
first_words code s = start_words code s ++ replicate (8 * length code.locks) 0 ++ never ∷ 0 ∷ []

-- ---- where the table has them

-- where the table has the word of a place: seven fillers stand after each word of the first cells, so many, after each of those of
-- their mutexes, and after each word from the slots' on, so that none of these shares its line of the cache
abbrev pub spread : (cells lone place : ℕ) → ℕ
spread cells lone place = place + 7 * (min place lone + min (place - cells) lone + (place - 5 * cells))

-- the first cells: the hand-off cells and the first globals
abbrev pub lone_cells : Code → SetupView → ℕ
lone_cells code s = 2 * s.slots + min (length code.globals) 256

abbrev pub spot_of : Code → SetupView → ℕ → ℕ
spot_of code s place = spread (cells_of code s) (lone_cells code s) place

-- the table has each of the words at its spot
pub record IsSpread (cells lone : ℕ) (words table : List ℕ) : Type 0 where
  pub size : length table ≡ spread cells lone (length words)
  pub at : (place : ℕ) → place < length words → slice_index table (spread cells lone place) ≡ slice_index words place

-- the word of an object has gone on from one that it had: it had no fewer operations, and is the same where it had as many
pub record HasGoneOn (before now : ℕ) : Type 0 where
  pub number : number_of before ≤ number_of now
  pub same : number_of before ≡ number_of now → before ≡ now

-- each word of an object has gone on from the values that these notes have of it
abbrev pub HaveGoneOn : Code → SetupView → List Note → List ℕ → Type 0
HaveGoneOn code s notes words = (k : ℕ) (n : Note) (now : ℕ) → slice_get notes k ≡ Some n → cells_of code s ≤ n.word → n.word < objects_end code s → slice_get words n.word ≡ Some now → HasGoneOn n.value now
