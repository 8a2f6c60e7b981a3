use Rattle.std.proofs.Common.{sym, ◌∙◌}
use Rattle.lockset_summary.proofs.Nearing.{same_on}
use Rattle.lockset_summary.proofs.exits.are_exits.Goals as goal

pub loop-k-preserved : goal.loop-k-preserved
loop-k-preserved c = same_on c.args.exits.now c.args.points.now c.loop-k.k c.exit_at.result.now c.exit.result.now c.facts_at.result.now c.exit_at.ensures c.facts_at.ensures c.exit.ensures c.loop-k.invariant (sym c.locks_same.ensures ∙ c.if-not-locks_same.false)
