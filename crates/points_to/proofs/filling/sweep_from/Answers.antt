use Rattle.std.proofs.Common.{◌*◌, ◌+◌, ◌/◌, ap, subst, length}
use Rattle.rr_base.specs.declared.layout.Place.{Place}
use Rattle.facts.specs.PointsTo.{place}
use Rattle.points_to.specs.Nodes.{Has, number_of}
use Rattle.points_to.specs.Filling.{Adds}
use Rattle.points_to.proofs.Adding.{more_below}
use Rattle.points_to.proofs.filling.sweep_from.Goals as goal

pub loop-class-preserved : goal.loop-class-preserved
loop-class-preserved c = more_below c.args.code.now (λ k r. Has (length c.args.code.now.functions) r c.args.to (number_of (place (c.args.p / 64) k))) c.loop-class.class c.args.sets.now c.loop-class.sets c.put-in-loop-class.new.sets c.loop-class.added c.in_ok-added.field-0 c.loop-class.invariant (subst (λ s. Adds c.args.code.now (λ r. Has (length c.args.code.now.functions) r c.args.to (s * 64 + c.loop-class.class)) c.loop-class.sets c.put-in-loop-class.new.sets c.in_ok-added.field-0) (ap (λ (q : Place). q.site) c.place_at-place.ensures) c.in_ok-added.ensures)
