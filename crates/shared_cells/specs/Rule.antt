-- The rule of the table: the words and what the seats know show a state that some list of labels reaches.
use Rattle.std.specs.Prelude.{◌≡◌, ◌≢◌, ℕ, ◌+◌, ◌^◌, ◌<◌, ◌≤◌, List, [], ◌++◌, length, take, drop, Some, slice_get, Contains, ◌⊎◌, min}
use mathlib.Core.Option.{some}
use lib.ListN.{get_elem?}
use Rattle.atomic_table.specs.Table as table
use Rattle.atomic_table.specs.Seated.{TableId}
use Rattle.sync_objects.specs.Setup.{SetupView, IsWithinLimits}
use Rattle.flow_code.specs.declared.code.Code.{Code}
use Rattle.flow_code.specs.Settle.{IsRunnable}
use Rattle.core_run.specs.Words.{cells_of}
use Rattle.core_run.specs.Histories.{IsReachable}
use Rattle.core_run.specs.Machine.{Told, start_state}
use Rattle.run_theory.specs.Steps.{State}
use Rattle.shared_cells.specs.Views.{SeatView, never}
use Rattle.shared_cells.specs.Words.{objects_end, departure_place, memory_place, first_words, lone_cells, spot_of, IsSpread, HaveGoneOn}
use Rattle.shared_cells.specs.declared.asked.Asked.{Asked}

-- what the table is told once: the code and the setup
pub record Knowledge : Type 0 where
  pub code : Code
  pub setup : SetupView

-- the cells as callers see them: the code, the setup, and which table it is
pub record Board : Type 0 where
  pub code : Code
  pub setup : SetupView
  pub table : TableId

-- what holds of the cells' own numbers and of the table with its key
pub record IsBoard (cells lone objects departure memory : ℕ) (key : Knowledge) (id : TableId) : Type 0 where
  pub runnable : IsRunnable key.code
  pub limits : IsWithinLimits key.setup
  pub cells_are : cells ≡ cells_of key.code key.setup
  pub lone_are : lone ≡ lone_cells key.code key.setup
  pub objects_are : objects ≡ objects_end key.code key.setup
  pub departure_is : departure ≡ spot_of key.code key.setup (departure_place key.code key.setup)
  pub memory_is : memory ≡ spot_of key.code key.setup (memory_place key.code key.setup)
  pub memory_fits : memory < 2 ^ 64
  pub size : id.words ≡ spot_of key.code key.setup (length (first_words key.code key.setup))
  pub no_slots : id.slots ≡ 0

-- the state has the threads that the view carries
abbrev pub Carries : State Told → SeatView → Type 0
Carries st v = (k : ℕ) (told : Told) → slice_get v.carried k ≡ Some told → slice_get st.threads (v.from + k) ≡ Some told

-- no thread is carried by both
abbrev pub AreApart : SeatView → SeatView → Type 0
AreApart v w = (k l : ℕ) → k < length v.carried → l < length w.carried → v.from + k ≢ w.from + l

-- the departure word is as at the start, or a position that a seat has put
abbrev pub IsPut : List SeatView → ℕ → Type 0
IsPut views d = (d ≡ never) ⊎ ((id : ℕ) × (v : SeatView) × (get_elem? views id ≡ some v) × Contains v.positions d)

-- what a view says that carries a thread
pub record IsSeen (code : Code) (s : SetupView) (st : State Told) (words : List ℕ) (v : SeatView) : Type 0 where
  pub code_is : v.code ≡ code
  pub setup_is : v.setup ≡ s
  pub carries : Carries st v
  pub notes : HaveGoneOn code s v.notes words
  pub met : (d : ℕ) → slice_get words (departure_place code s) ≡ Some d → d ≤ v.met

-- the words and the views show a state that can be reached
pub record Shows (code : Code) (s : SetupView) (words : List ℕ) (views : List SeatView) : Type 0 where
  pub state : State Told
  pub reached : IsReachable code s state
  pub others : List ℕ
  pub words_are : words ≡ state.words ++ others
  pub size : length words ≡ length (first_words code s)
  pub seen : (id : ℕ) (v : SeatView) → get_elem? views id ≡ some v → 0 < length v.carried → IsSeen code s state words v
  pub apart : (i j : ℕ) (v w : SeatView) → i ≢ j → get_elem? views i ≡ some v → get_elem? views j ≡ some w → AreApart v w
  pub spent : (id : ℕ) (v : SeatView) → get_elem? views id ≡ some v → length v.carried ≡ 0 → v.positions ≡ []
  pub low : (d : ℕ) → slice_get words (departure_place code s) ≡ Some d → d ≤ never
  pub departed : (d : ℕ) → slice_get words (departure_place code s) ≡ Some d → IsPut views d

-- so do the words of a table on which each stands at its place
abbrev pub HoldsDense : Knowledge → table.State Asked SeatView → Type 0
HoldsDense key s = Shows key.code key.setup s.words s.views

-- the rule itself, which each step on the table keeps: on it each word stands at its spot
abbrev pub Holds : Knowledge → table.State Asked SeatView → Type 0
Holds key s = (words : List ℕ) × IsSpread (cells_of key.code key.setup) (lone_cells key.code key.setup) words s.words × Shows key.code key.setup words s.views

-- two views become one: the threads of the second one are those after the first one's
abbrev pub both : SeatView → SeatView → SeatView
both v w = record v { carried = v.carried ++ w.carried; notes = v.notes ++ w.notes; positions = v.positions ++ w.positions; met = min v.met w.met }

-- the first seat carries all threads
abbrev pub everyone : Knowledge → SeatView
everyone key = record { code = key.code; setup = key.setup; from = 0; carried = (start_state key.code key.setup).threads; notes = []; positions = []; met = never }

-- a view is cut into its first thread and the others
abbrev pub first_part : SeatView → SeatView
first_part v = record v { carried = take 1 v.carried }

-- all threads but the first, for a seat of their own
abbrev pub other_part : SeatView → SeatView
other_part v = record v { from = v.from + 1; carried = drop 1 v.carried }
