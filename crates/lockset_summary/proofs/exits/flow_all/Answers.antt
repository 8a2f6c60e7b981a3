use Rattle.std.proofs.Common.{◌+◌, sym, subst}
use Rattle.lockset_summary.proofs.Nearing.{AreFirstGreatest, more_points}
use Rattle.lockset_summary.proofs.exits.flow_all.Goals as goal

pub loop-f-preserved : goal.loop-f-preserved
loop-f-preserved c = subst (AreFirstGreatest c.args.code.now c.args.tops.now c.args.exits.now (c.loop-f.f + 1)) (sym c.in_ok-push.ensures.ok) (more_points c.args.code.now c.args.tops.now c.args.exits.now c.loop-f.f c.loop-f.points c.in_ok-flow_at.field-0 c.loop-f.invariant c.in_ok-flow_at.ensures)
