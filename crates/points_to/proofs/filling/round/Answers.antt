use Rattle.std.proofs.Common.{arith, ◌∙◌, refl}
use Rattle.points_to.proofs.Laws.{taken}
use Rattle.points_to.proofs.Adding.{more_met, all_met, get_at}
use Rattle.points_to.proofs.filling.round.Goals as goal

pub apply-requires-clause-wide : goal.apply-requires-clause-wide
apply-requires-clause-wide c = c.loop-constraint.invariant.wide ∙ c.requires.wide

pub apply-requires-clause-fine : goal.apply-requires-clause-fine
apply-requires-clause-fine c = c.loop-constraint.invariant.fine c.requires.fine

pub apply-requires-clause-one : goal.apply-requires-clause-one
apply-requires-clause-one c = taken c.args.constraints.now _ c.loop-constraint.constraint-index _ c.requires.all c.loop-constraint-test.true

pub loop-constraint-preserved : goal.loop-constraint-preserved
loop-constraint-preserved c = more_met c.args.code.now c.args.constraints.now c.loop-constraint.constraint-index _ c.args.sets.now c.loop-constraint.sets c.apply.new.sets c.loop-constraint.added c.in_ok-added.field-0 (get_at c.args.constraints.now c.args.constraints.now c.loop-constraint.constraint-index _ refl c.loop-constraint-test.true) c.loop-constraint.invariant c.in_ok-added.ensures

pub returns : goal.returns
returns c = all_met c.args.code.now c.args.constraints.now c.loop-constraint.constraint-index c.args.sets.now c.loop-constraint.sets c.loop-constraint.added (omega arith) c.requires.all c.loop-constraint.invariant
