-- A thread that follows its entries of a log.
use Rattle.std.specs.Prelude.{◌≡◌, ℕ, ◌+◌, ◌^◌, nat_le, ◌<◌, ◌≤◌, ◌||◌, Bool, true, false, List, [], ◌∷◌, length, take, Option, Some, None, option_to_list, slice_get}
use Rattle.sync_objects.specs.Setup.{IsWithinLimits}
use Rattle.flow_code.specs.Settle.{IsRunnable}
use Rattle.shared_cells.specs.Rule.{Board}
use Rattle.shared_cells.specs.Seats.{view_of}
use Rattle.shared_cells.specs.declared.seat.Seat.{Seat}
use Rattle.thread_step.specs.Steps.{Stepping}
use Rattle.weak_turns.specs.Shown.{IsCarrying}
use Rattle.weak_turns.specs.Turns.{SawNoMemory}
use Rattle.replayer.specs.Steps.{told_at, IsInStep, HasDeparted, StepIs}
use Rattle.replayer.specs.Wants.{noted_in}
use Rattle.replayer.specs.declared.step.Step.{Step}
use Rattle.replayer.specs.declared.step.Step.TheVariants as step
use Rattle.replayer.specs.declared.tried.Tried.{Tried}
use Rattle.replayer.specs.declared.wanted.Wanted.{Wanted}

-- the cells, the seat and the run of its thread; its entries of the log, and how many of them it has made; the least departure
-- word that it knows of; how many turns there were; whether it has departed, and whether memory ran out; the position that it has
-- put before its first turn, if it has put one
pub record Following : Type 0 where
  pub cells : Board
  pub seat : Seat
  pub run : Stepping
  pub wanted : List Wanted
  pub made : ℕ
  pub bound : ℕ
  pub turns : ℕ
  pub has_departed : Bool
  pub is_out : Bool
  pub known : Option ℕ

-- its next entry
abbrev pub next_of : Following → Option Wanted
next_of f = slice_get f.wanted f.made

-- the entry stands at the position or after it, or there is none
abbrev pub is_past : ℕ → Option Wanted → Bool
is_past bound None = true
is_past bound (Some w) = nat_le bound w.position

-- it does nothing more: memory ran out, it has departed, or its next entry isn't before the departure
abbrev pub is_over : Following → Bool
is_over f = f.is_out || f.has_departed || is_past f.bound (next_of f)

-- whether it has departed from its next entry, whose position it has put then, after the one that was known
abbrev pub StandsSo : Bool → Following → Type 0
StandsSo false f = ((view_of f.seat).positions ≡ option_to_list f.known) × ((w : Wanted) → next_of f ≡ Some w → IsInStep (told_at f.seat) w.noted)
StandsSo true f = (w : Wanted) × (next_of f ≡ Some w) × ((view_of f.seat).positions ≡ w.position ∷ option_to_list f.known) × ((view_of f.seat).met ≤ w.position) × HasDeparted (view_of f.seat) (told_at f.seat) w.noted

-- the thread has made the first of its entries of the log, and nothing else
pub record IsOnTrack (f : Following) : Type 0 where
  pub made : (told_at f.seat).entries ≡ noted_in (take f.made f.wanted)
  pub bound : (view_of f.seat).met ≤ f.bound
  pub stands : StandsSo f.has_departed f

-- what holds of a follower between its turns: where memory ran out for it, it has met the memory word, which was set
pub record IsSound (f : Following) : Type 0 where
  pub runnable : IsRunnable f.cells.code
  pub limits : IsWithinLimits f.cells.setup
  pub carrying : IsCarrying f.cells f.seat f.run
  pub own : (k : ℕ) (w : Wanted) → slice_get f.wanted k ≡ Some w → w.noted.entry.thread ≡ (view_of f.seat).from
  pub within : f.made ≤ length f.wanted
  pub few : length f.wanted < 2 ^ 32
  pub listed : f.made ≤ f.turns
  pub on_track : f.is_out ≡ false → IsOnTrack f
  pub cause : f.is_out ≡ true → SawNoMemory f.cells (view_of f.seat).notes

-- how many entries they have made
abbrev pub made_in : List Following → ℕ
made_in [] = 0
made_in (f ∷ fs) = f.made + made_in fs

-- both follow the same entries with the same thread of the same cells, and have put the same position before
pub record IsSameFollower (f later : Following) : Type 0 where
  pub cells : later.cells ≡ f.cells
  pub thread : (view_of later.seat).from ≡ (view_of f.seat).from
  pub wanted : later.wanted ≡ f.wanted
  pub known : later.known ≡ f.known

-- ---- a turn at an entry

-- the positions that were put, after a step at an entry
abbrev pub positions_after : Step → ℕ → List ℕ → List ℕ
positions_after step.Departs position positions = position ∷ positions
positions_after _ position positions = positions

-- a thread that departs has met a departure at its entry or before
abbrev pub IsMetBy : Step → (met position : ℕ) → Type 0
IsMetBy step.Departs met position = met ≤ position
IsMetBy _ met position = Unit {0}

-- what a turn at an entry has come to
pub record TriedIs (cells : Board) (old new : Seat) (run : Stepping) (w : Wanted) (tried : Tried) : Type 0 where
  pub carrying : IsCarrying cells new run
  pub thread : (view_of new).from ≡ (view_of old).from
  pub bound : (view_of new).met ≤ tried.bound
  pub met : IsMetBy tried.step (view_of new).met w.position
  pub positions : (view_of new).positions ≡ positions_after tried.step w.position (view_of old).positions
  pub early : tried.bound ≤ w.position → tried.step ≡ step.Waits
  pub is : StepIs old new w.noted tried.step
