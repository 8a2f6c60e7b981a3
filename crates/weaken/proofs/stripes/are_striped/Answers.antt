use Rattle.std.proofs.Common.{arith, ap, ◌&&◌}
use Rattle.weak_code.specs.WeakLocks as spec
use Rattle.facts.specs.Pairs.{places_of}
use Rattle.weaken.proofs.Nexts.{gets, any_next, take_all}
use Rattle.weaken.proofs.Striped.{mark_more, mark_as, marked_from_none}
use Rattle.weaken.proofs.stripes.are_striped.Goals as goal

pub loop-row-preserved : goal.loop-row-preserved
loop-row-preserved c = mark_more c.args.locked.now _ _ _ _ _ _ (λ q. any_next (λ g. spec.is_loop g.grain && spec.has_place q (places_of c.args.code.now c.args.points.now g.access)) c.args.rows.now c.loop-row.row-index _ (gets c.args.rows.now c.loop-row.row-index _ (omega arith))) c.loop-row.invariant c.mark_access.ensures

pub returns-clause-each : goal.returns-clause-each
returns-clause-each c = marked_from_none c.args.locked.now _ _ (mark_as c.args.locked.now _ _ _ _ (λ q. ap (λ z. spec.is_striped c.args.code.now c.args.points.now z q) (take_all c.args.rows.now c.loop-row.row-index (omega arith))) c.loop-row.invariant)
