use Rattle.std.proofs.Common.{◌≡◌, length, reverse}
use Rattle.chain_report.proofs.LowestChain.{At}
use Rattle.chain_report.specs.Rows.{AreRows}
use Rattle.chain_report.proofs.lowest.read_off.Given as goal

abbrev pub invariant-loop-reached : goal.invariant-loop-reached
invariant-loop-reached l = record {
  at : (all : AreRows l.entries l.from l.rows) (same : length l.rows ≡ length l.entries) → At l.entries l.from l.fn.to l.rows all same l.reached (reverse l.backwards);
}

abbrev pub decreases-loop-reached : goal.decreases-loop-reached
decreases-loop-reached l = l.reached
