use Rattle.std.proofs.Common.{arith, List}
use Rattle.facts.specs.declared.locks.Guarded.{Guarded}
use Rattle.lockset_summary.specs.Rounds.{room}
use Rattle.lockset_summary.specs.Guarding.{IsMetAt, AreMade}
use Rattle.lockset_summary.proofs.Making.{all_at}
use Rattle.lockset_summary.proofs.Rounds.{more_to}
use Rattle.lockset_summary.proofs.guarded.meet_all.Goals as goal

pub loop-k-preserved : goal.loop-k-preserved
loop-k-preserved c = more_to (List (List Guarded)) (room Guarded) (AreMade c.args.code.now c.args.points.now) (λ j r. IsMetAt c.args.code.now c.args.points.now c.args.f j r) c.loop-k.k c.args.rows.now.items c.loop-k.rows.items c.meet.new.rows.items c.loop-k.added c.in_ok-added.field-0 c.loop-k.invariant c.in_ok-added.ensures

pub returns : goal.returns
returns c = all_at c.args.code.now c.args.points.now c.args.rows.now.items c.loop-k.rows.items c.args.f c.loop-k.k c.at.result.now c.loop-k.added c.at.ensures (omega (arith, c.loop-k-test.false, c.len-k-end.ensures)) c.loop-k.invariant
