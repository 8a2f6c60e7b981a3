use Rattle.std.proofs.Common.{◌≡◌, length}
use Rattle.chain_report.specs.Directions.{may_lead as may_lead_of}
use Rattle.chain_report.proofs.lowest.may_lead.Given as goal

abbrev pub invariant-loop-rest : goal.invariant-loop-rest
invariant-loop-rest l = record { same : may_lead_of l.from l.to l.entries ≡ may_lead_of l.from l.to l.rest }

abbrev pub decreases-loop-rest : goal.decreases-loop-rest
decreases-loop-rest l = length l.rest
