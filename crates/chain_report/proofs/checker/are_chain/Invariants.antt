use Rattle.std.proofs.Common.{◌≡◌, None, length}
use Rattle.chain_report.specs.Chains.{chain_from}
use Rattle.chain_report.proofs.checker.are_chain.Given as goal

abbrev pub invariant-loop-rest : goal.invariant-loop-rest
invariant-loop-rest l = record { same : chain_from l.entries l.first l.second None l.passes_given ≡ chain_from l.entries l.first l.second l.reached l.rest }

abbrev pub decreases-loop-rest : goal.decreases-loop-rest
decreases-loop-rest l = length l.rest
