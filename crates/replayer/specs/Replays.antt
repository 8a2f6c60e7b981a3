-- What a replay comes to.
use Rattle.std.specs.Prelude.{◌≡◌, ℕ, ◌<◌, Bool, true, false, List, length, map, Some, slice_get}
use Rattle.std.specs.List.{list_all}
use Rattle.core_run.specs.declared.outcome.Walk.{Walk}
use Rattle.core_run.specs.declared.outcome.Walk.TheVariants as walk
use Rattle.sync_objects.specs.Setup.{SetupView, IsWithinLimits}
use Rattle.sync_objects.specs.declared.entry.Entry.{Entry}
use Rattle.flow_code.specs.Next.{has_ended}
use Rattle.shared_cells.specs.Rule.{Board}
use Rattle.shared_cells.specs.Seats.{view_of}
use Rattle.shared_cells.specs.declared.seat.Seat.{Seat}
use Rattle.run_walk.specs.declared.remains.Remains.{Remains}
use Rattle.run_walk.specs.Remains.{remains_in}
use Rattle.log_walks.specs.Known.{IsWrongAt, NoneIsWrong}
use Rattle.replayer.specs.Following.{Following, IsSound, is_over}
use Rattle.replayer.specs.Wants.{wanted_of}

-- each entry is of one of the setup's threads
abbrev pub AreThreads : SetupView → List Entry → Type 0
AreThreads s es = (k : ℕ) (e : Entry) → slice_get es k ≡ Some e → e.thread < s.slots

-- how many entries of the log its walk takes
abbrev pub entries_taken : List Entry → Walk → ℕ
entries_taken es (walk.Wrong at) = at
entries_taken es _ = length es

-- ---- the followers of a log

-- thread k of these cells follows its entries of the log, and a position that it has put before is that of an entry that is never
-- allowed
pub record IsFollower (cells : Board) (es : List Entry) (k : ℕ) (f : Following) : Type 0 where
  pub cells_are : f.cells ≡ cells
  pub thread : (view_of f.seat).from ≡ k
  pub wanted : f.wanted ≡ wanted_of k es
  pub known : (p : ℕ) → f.known ≡ Some p → IsWrongAt cells.setup.slots es p

-- one for each thread, in order
pub record AreFollowers (cells : Board) (es : List Entry) (fs : List Following) : Type 0 where
  pub limits : IsWithinLimits cells.setup
  pub count : length fs ≡ cells.setup.slots
  pub each : (k : ℕ) (f : Following) → slice_get fs k ≡ Some f → IsFollower cells es k f

-- they have had no turn yet
abbrev pub AreFresh : List Following → Type 0
AreFresh fs = (k : ℕ) (f : Following) → slice_get fs k ≡ Some f → f.turns ≡ 0

-- where the log has an entry that is never allowed, the follower of the first one's thread has put its position before any turn
abbrev pub HaveLowered : SetupView → List Entry → List Following → Type 0
HaveLowered s es fs = (p : ℕ) (e : Entry) (f : Following) → IsWrongAt s.slots es p → NoneIsWrong s.slots es p → slice_get es p ≡ Some e → slice_get fs e.thread ≡ Some f → f.known ≡ Some p

-- they have come to their end
pub record AreDone (cells : Board) (es : List Entry) (fs : List Following) : Type 0 where
  pub followers : AreFollowers cells es fs
  pub over : (k : ℕ) (f : Following) → slice_get fs k ≡ Some f → is_over f ≡ true

-- memory ran out for none of them
abbrev pub AreWhole : List Following → Type 0
AreWhole fs = (k : ℕ) (f : Following) → slice_get fs k ≡ Some f → (f.is_out ≡ false) × IsSound f

-- the follower's thread goes on no more; a trap is an end, too
abbrev pub has_ended_in : Following → Bool
has_ended_in f = has_ended f.run.flow.kept.thread.phase

-- these are the seats of followers that have come to their end, this remains of their runs, and this is whether their threads have
-- ended
pub record HaveFollowed (cells : Board) (es : List Entry) (seats : List Seat) (remains : List Remains) (all_ended : Bool) : Type 0 where
  pub fs : List Following
  pub done : AreDone cells es fs
  pub whole : AreWhole fs
  pub seats_are : seats ≡ map (λ (f : Following). f.seat) fs
  pub remains_are : remains ≡ map (λ (f : Following). remains_in f.run) fs
  pub ended : all_ended ≡ list_all has_ended_in fs
