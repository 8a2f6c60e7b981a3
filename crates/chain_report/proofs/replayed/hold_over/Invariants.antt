use Rattle.std.proofs.Common.{◌≡◌, None, length}
use Rattle.chain_report.specs.Replayed.{hold_over as hold_over_of}
use Rattle.chain_report.proofs.replayed.hold_over.Given as goal

abbrev pub invariant-loop-rest : goal.invariant-loop-rest
invariant-loop-rest l = record { same : hold_over_of l.lock l.thread None l.entries ≡ hold_over_of l.lock l.thread l.held l.rest }

abbrev pub decreases-loop-rest : goal.decreases-loop-rest
decreases-loop-rest l = length l.rest
