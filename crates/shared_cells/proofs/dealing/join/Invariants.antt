use Rattle.std.proofs.Common.{length}
use Rattle.shared_cells.proofs.Joined.{IsJoining}
use Rattle.shared_cells.proofs.dealing.join.Given as goal

abbrev pub invariant-loop-seat : goal.invariant-loop-seat
invariant-loop-seat l = IsJoining (record { code = l.shared.key.code; setup = l.shared.key.setup; table = l.shared.table_id }) l.shared.table_id l.fn.seats.items l.seats.items l.whole

abbrev pub decreases-loop-seat : goal.decreases-loop-seat
decreases-loop-seat l = length l.seats.items
