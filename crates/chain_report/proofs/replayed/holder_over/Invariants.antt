use Rattle.std.proofs.Common.{◌≡◌, None, length}
use Rattle.chain_report.specs.Replayed.{holder_over as holder_over_of}
use Rattle.chain_report.proofs.replayed.holder_over.Given as goal

abbrev pub invariant-loop-rest : goal.invariant-loop-rest
invariant-loop-rest l = record { same : holder_over_of l.mutex None l.entries ≡ holder_over_of l.mutex l.holder l.rest }

abbrev pub decreases-loop-rest : goal.decreases-loop-rest
decreases-loop-rest l = length l.rest
