-- A seat and a run of one thread: the run shows the thread that the seat knows, after the marks that the seat has still to take
-- in.
use Rattle.std.specs.Prelude.{◌≡◌, ℕ, true, ◌⊎◌}
use Rattle.sync_objects.specs.Setup.{SetupView}
use Rattle.flow_code.specs.declared.code.Code.{Code}
use Rattle.flow_code.specs.Next.{has_ended}
use Rattle.flow_code.specs.Settle.{settled}
use Rattle.flow_code.specs.Threads.{Thread}
use Rattle.core_run.specs.Machine.{Told}
use Rattle.core_run.specs.Walks.{kept_reads}
use Rattle.lock_ownership.specs.ThreadStripes.{HasItsStripes}
use Rattle.shared_cells.specs.Plays.{IsReached}
use Rattle.shared_cells.specs.Rule.{Board}
use Rattle.shared_cells.specs.Seats.{IsSeatOf, view_of}
use Rattle.shared_cells.specs.Threads.{AreMarks, own, pending}
use Rattle.shared_cells.specs.Views.{SeatView}
use Rattle.shared_cells.specs.declared.seat.Seat.{Seat}
use Rattle.thread_step.specs.Steps.{Stepping}

-- both come to the same by their quiet steps, or both have ended in the same way
abbrev pub IsSameThread : Code → SetupView → ℕ → Thread → Thread → Type 0
IsSameThread code s t th q = (settled code s t th ≡ settled code s t q) ⊎ ((has_ended th.phase ≡ true) × (q.phase ≡ th.phase))

-- the run shows thread t of the machine, with its entries, with what it has printed, and with the accesses that it keeps of it
pub record Shows (code : Code) (s : SetupView) (t : ℕ) (r : Stepping) (told : Told) : Type 0 where
  pub code_is : r.flow.code ≡ code
  pub setup_is : r.flow.setup ≡ s
  pub number_is : r.flow.number ≡ t
  pub entries : r.entries ≡ told.entries
  pub pieces : r.pieces ≡ told.pieces
  pub reads : r.reads ≡ kept_reads r.formula told
  pub thread : IsSameThread code s t r.flow.kept.thread told.thread

-- a seat's thread is that of a state that can be reached; its next so many actions are marks, and after them it is what the run shows
pub record Carries (v : SeatView) (marks : ℕ) (r : Stepping) : Type 0 where
  pub reached : IsReached v
  pub ahead : AreMarks v.code v.setup v.from marks (own v)
  pub shows : Shows v.code v.setup v.from r (pending v marks)
  pub stripes : HasItsStripes (pending v marks).thread

-- the seat is one of these cells, and the run is that of its thread
pub record IsCarrying (cells : Board) (seat : Seat) (r : Stepping) : Type 0 where
  pub seat_of : IsSeatOf cells seat
  pub carries : Carries (view_of seat) seat.marks r

-- the run's quiet steps are made
abbrev pub IsSettled : Stepping → Type 0
IsSettled r = settled r.flow.code r.flow.setup r.flow.number r.flow.kept.thread ≡ r.flow.kept.thread
