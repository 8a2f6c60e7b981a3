-- The carriers of all threads, before their first turns and when they are done.
use Rattle.std.specs.Prelude.{◌≡◌, ℕ, true, List, length, Some, slice_get}
use Rattle.sync_objects.specs.declared.entry.Noted.{Noted}
use Rattle.shared_cells.specs.Rule.{Board}
use Rattle.shared_cells.specs.Seats.{view_of}
use Rattle.shared_cells.specs.declared.seat.Seat.{Seat}
use Rattle.run_walk.specs.declared.remains.Remains.{Remains}
use Rattle.run_walk.specs.Remains.{remains_in}
use Rattle.weak_turns.specs.Carrying.{Carrying, IsSound, run_has_ended}

-- it carries thread t of these cells, holds a stripe for so many turns before it may be revoked, and has had no turn
pub record IsCarrierOf (cells : Board) (budget t : ℕ) (c : Carrying) : Type 0 where
  pub cells_are : c.cells ≡ cells
  pub thread : (view_of c.seat).from ≡ t
  pub budget_is : c.budget ≡ budget
  pub fresh : c.turns ≡ 0

-- these carry the cells' threads, in order
pub record AreCarriers (cells : Board) (budget : ℕ) (carriers : List Carrying) : Type 0 where
  pub count : length carriers ≡ cells.setup.slots
  pub each : (t : ℕ) (c : Carrying) → slice_get carriers t ≡ Some c → IsCarrierOf cells budget t c

-- the carrier's thread has ended; its seat, its entries and what else remains of it stand at its place
pub record IsTaken (c : Carrying) (t : ℕ) (seats : List Seat) (lists : List (List Noted)) (remains : List Remains) : Type 0 where
  pub seat : slice_get seats t ≡ Some c.seat
  pub list : slice_get lists t ≡ Some c.run.entries
  pub rest : slice_get remains t ≡ Some (remains_in c.run)
  pub sound : IsSound c
  pub ended : run_has_ended c.run ≡ true

-- the seats of all carriers, the entries of their threads, which have ended, and what else remains of these
pub record AreParts (carriers : List Carrying) (seats : List Seat) (lists : List (List Noted)) (remains : List Remains) : Type 0 where
  pub seat_count : length seats ≡ length carriers
  pub list_count : length lists ≡ length carriers
  pub rest_count : length remains ≡ length carriers
  pub each : (t : ℕ) (c : Carrying) → slice_get carriers t ≡ Some c → IsTaken c t seats lists remains
