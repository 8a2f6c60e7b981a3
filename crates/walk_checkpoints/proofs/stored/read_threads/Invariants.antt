use Rattle.std.proofs.Common.{length}
use Rattle.std.specs.List.{AllByRecursion}
use Rattle.snapshot_reached.specs.Stored.{IsStoredThread}
use Rattle.walk_checkpoints.proofs.stored.read_threads.Given as goal

abbrev pub invariant-loop-rest : goal.invariant-loop-rest
invariant-loop-rest l = AllByRecursion (IsStoredThread) l.rest → AllByRecursion (IsStoredThread) l.threads

abbrev pub decreases-loop-rest : goal.decreases-loop-rest
decreases-loop-rest l = length l.rest
