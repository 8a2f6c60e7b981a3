use Rattle.std.proofs.Common.{◌≡◌, ◌+◌, ◌++◌, length}
use Rattle.snapshots.specs.Snapshots.{cells_from}
use Rattle.checkpoint.proofs.taking.cells_in.Given as goal

abbrev pub invariant-loop-rest : goal.invariant-loop-rest
invariant-loop-rest l = record {
  place : l.cell + length l.rest ≡ length l.words;
  found : l.found ++ cells_from l.cell l.rest ≡ cells_from 0 l.words;
}

abbrev pub decreases-loop-rest : goal.decreases-loop-rest
decreases-loop-rest l = length l.rest
