use Rattle.std.proofs.Common.{◌≡◌, ◌+◌, sym, subst, take}
use Rattle.facts.specs.Summaries.{exits_of}
use Rattle.lockset_summary.specs.Exits.{AreSmall}
use Rattle.lockset_summary.proofs.Nearing.{exits_more}
use Rattle.lockset_summary.proofs.exits.exits_of.Goals as goal

pub loop-k-preserved : goal.loop-k-preserved
loop-k-preserved c = subst (λ z. (z ≡ exits_of (take (c.loop-k.k + 1) c.args.points.now)) × AreSmall z) (sym c.in_ok-push.ensures.ok) (exits_more c.args.points.now c.loop-k.k c.facts_at.result.now c.loop-k.exits c.in_ok-exit_of.field-0 c.facts_at.ensures c.loop-k.invariant c.in_ok-exit_of.ensures.value c.in_ok-exit_of.ensures.small)
