use Rattle.lockset_flow.proofs.Relaxed.{more_met}
use Rattle.lockset_flow.proofs.flow.round.Goals as goal

pub loop-k-preserved : goal.loop-k-preserved
loop-k-preserved c = more_met c.args.exits.now c.args.function.now c.loop-k.k c.args.facts.now c.loop-k.facts c.step.new.facts c.loop-k.changed c.in_ok-changed.field-0 c.loop-k.invariant c.in_ok-changed.ensures
