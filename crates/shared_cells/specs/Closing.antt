-- What is left when all seats have been given back.
use Rattle.std.specs.Prelude.{◌≡◌, ℕ, ◌≤◌, List, length, Some, slice_get, Contains, ◌⊎◌}
use Rattle.sync_objects.specs.Setup.{SetupView}
use Rattle.flow_code.specs.declared.code.Code.{Code}
use Rattle.core_run.specs.Histories.{IsReachable}
use Rattle.core_run.specs.Machine.{Told}
use Rattle.run_theory.specs.Steps.{State}
use Rattle.shared_cells.specs.Views.{Note, SeatView, never}
use Rattle.shared_cells.specs.Threads.{own}
use Rattle.shared_cells.specs.Words.{HaveGoneOn}
use Rattle.shared_cells.specs.Seats.{view_of}
use Rattle.shared_cells.specs.declared.seat.Seat.{Seat}

-- one view has what these seats have, whose threads are those from k on
pub record Gathers (seats : List Seat) (k : ℕ) (v : SeatView) : Type 0 where
  pub from_is : v.from ≡ k
  pub long : length v.carried ≡ length seats
  pub threads : (t : ℕ) (seat : Seat) → slice_get seats t ≡ Some seat → slice_get v.carried t ≡ Some (own (view_of seat))
  pub notes : (t : ℕ) (seat : Seat) (i : ℕ) (n : Note) → slice_get seats t ≡ Some seat → slice_get (view_of seat).notes i ≡ Some n → (m : ℕ) × (slice_get v.notes m ≡ Some n)
  pub met : (t : ℕ) (seat : Seat) → slice_get seats t ≡ Some seat → v.met ≤ (view_of seat).met
  pub positions : (x : ℕ) → Contains v.positions x → (t : ℕ) × (seat : Seat) × (slice_get seats t ≡ Some seat) × Contains (view_of seat).positions x

-- One run leads to a state with these words, in which each thread is as its seat knew it, before the marks that were still to
-- come. The departure is as at the start or a position that a seat has put, and not above what a seat has met.
pub record Closes (code : Code) (s : SetupView) (seats : List Seat) (words : List ℕ) (departure : ℕ) : Type 0 where
  pub state : State Told
  pub reached : IsReachable code s state
  pub words_are : words ≡ state.words
  pub threads : (t : ℕ) (seat : Seat) → slice_get seats t ≡ Some seat → slice_get state.threads t ≡ Some (own (view_of seat))
  pub notes : (t : ℕ) (seat : Seat) → slice_get seats t ≡ Some seat → HaveGoneOn code s (view_of seat).notes words
  pub met : (t : ℕ) (seat : Seat) → slice_get seats t ≡ Some seat → departure ≤ (view_of seat).met
  pub put : (departure ≡ never) ⊎ ((t : ℕ) × (seat : Seat) × (slice_get seats t ≡ Some seat) × Contains (view_of seat).positions departure)
