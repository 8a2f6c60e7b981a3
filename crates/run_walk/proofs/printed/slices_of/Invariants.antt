use Rattle.std.proofs.Common.{◌≡◌, take}
use Rattle.run_walk.specs.Printed.{pieces_in, pieces_of}
use Rattle.run_walk.proofs.printed.slices_of.Given as goal

abbrev pub invariant-loop-thread : goal.invariant-loop-thread
invariant-loop-thread l = pieces_of l.slices ≡ pieces_in (take l.thread-index l.remains)
