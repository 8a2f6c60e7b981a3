use Rattle.std.proofs.Common.{◌≡◌, ◌++◌, drop}
use Rattle.run_walk.specs.Printed.{bytes_by, pieces_in, pieces_of}
use Rattle.run_walk.proofs.printed.bytes_of.Given as goal

abbrev pub invariant-loop-entry : goal.invariant-loop-entry
invariant-loop-entry l = record { same : bytes_by l.entries (pieces_in l.remains) ≡ l.out ++ bytes_by (drop l.entry-index l.entries) (pieces_of l.slices) }
