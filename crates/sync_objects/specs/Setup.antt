-- What a run is set up with, and the limits of it.
use Rattle.std.specs.Prelude.{ℕ, ◌≤◌, List, length}

-- the thread slots, each thread's arena cells, each thread's limit of events, the input bytes
pub record SetupView : Type 0 where
  pub slots : ℕ
  pub cells : ℕ
  pub limit : ℕ
  pub input : List ℕ

-- each number is within its limits
pub record IsWithinLimits (s : SetupView) : Type 0 where
  pub some_slot : 1 ≤ s.slots
  pub few_slots : s.slots ≤ 16
  pub enough_cells : 1024 ≤ s.cells
  pub few_cells : s.cells ≤ 131072
  pub some_event : 1 ≤ s.limit
  pub few_events : s.limit ≤ 67108864
  pub short_input : length s.input ≤ 1048576
