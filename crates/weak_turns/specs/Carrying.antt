-- A carrier: one thread of a code with its seat.
use Rattle.std.specs.Prelude.{◌≡◌, ℕ, ◌*◌, ◌≤◌, ◌||◌, Bool, true, List, length}
use Rattle.sync_objects.specs.Setup.{IsWithinLimits}
use Rattle.flow_code.specs.Next.{has_ended}
use Rattle.flow_code.specs.Constants.{constants_fit}
use Rattle.flow_code.specs.Valid.{is_valid}
use Rattle.shared_cells.specs.Rule.{Board}
use Rattle.shared_cells.specs.Seats.{view_of}
use Rattle.shared_cells.specs.declared.seat.Seat.{Seat}
use Rattle.thread_step.specs.Steps.{Stepping}
use Rattle.weak_turns.specs.Shown.{IsCarrying}

-- the cells, the seat and the run of its thread; for how many turns a stripe is held before it may be revoked; how many turns
-- there were; for each stripe of the code's locks the turn in which it was taken last; and whether memory ran out
pub record Carrying : Type 0 where
  pub cells : Board
  pub seat : Seat
  pub run : Stepping
  pub budget : ℕ
  pub turns : ℕ
  pub since : List ℕ
  pub is_out : Bool

-- the seat and the run are of one thread of the cells' code, which is valid; it has made at most one entry in each turn
pub record IsSound (c : Carrying) : Type 0 where
  pub valid : is_valid c.cells.code ≡ true
  pub constants : constants_fit c.cells.code ≡ true
  pub limits : IsWithinLimits c.cells.setup
  pub carrying : IsCarrying c.cells c.seat c.run
  pub stripes : length c.since ≡ 8 * length c.cells.code.locks
  pub listed : length c.run.entries ≤ c.turns

-- its thread goes on no more; a trap is an end, too
abbrev pub run_has_ended : Stepping → Bool
run_has_ended r = has_ended r.flow.kept.thread.phase

-- the thread has ended, or memory ran out
abbrev pub is_over : Carrying → Bool
is_over c = c.is_out || run_has_ended c.run

-- both carry the same thread of the same cells
pub record IsSameCarrier (c later : Carrying) : Type 0 where
  pub cells : later.cells ≡ c.cells
  pub thread : (view_of later.seat).from ≡ (view_of c.seat).from
  pub budget : later.budget ≡ c.budget
