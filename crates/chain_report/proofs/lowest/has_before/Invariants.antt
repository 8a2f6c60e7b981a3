use Rattle.std.proofs.Common.{◌≡◌, length}
use Rattle.chain_report.specs.Directions.{has_before as has_before_of}
use Rattle.chain_report.proofs.lowest.has_before.Given as goal

abbrev pub invariant-loop-rest : goal.invariant-loop-rest
invariant-loop-rest l = record { same : has_before_of l.to l.entries ≡ has_before_of l.to l.rest }

abbrev pub decreases-loop-rest : goal.decreases-loop-rest
decreases-loop-rest l = length l.rest
