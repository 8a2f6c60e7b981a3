use Rattle.std.proofs.Common.{arith, length, ◌∙◌}
use Rattle.points_to.specs.Nodes.{Has}
use Rattle.points_to.specs.Filling.{number_on}
use Rattle.points_to.proofs.Adding.{more_to, all_to}
use Rattle.points_to.proofs.filling.shift.Goals as goal

pub shift_at-requires-clause-wide : goal.shift_at-requires-clause-wide
shift_at-requires-clause-wide c = c.loop-k.invariant.wide ∙ c.requires.wide

pub shift_at-requires-clause-fine : goal.shift_at-requires-clause-fine
shift_at-requires-clause-fine c = c.loop-k.invariant.fine c.requires.fine

pub loop-k-preserved : goal.loop-k-preserved
loop-k-preserved c = more_to c.args.code.now c.loop-k.k c.args.from (λ p r. Has (length c.args.code.now.functions) r c.args.to (number_on c.args.code.now c.args.step.by c.args.step.element c.args.step.back p)) c.args.sets.now c.loop-k.sets c.shift_at.new.sets c.loop-k.added c.in_ok-added.field-0 c.loop-k.invariant c.in_ok-added.ensures

pub returns : goal.returns
returns c = all_to c.args.code.now c.loop-k.k c.args.from (λ p r. Has (length c.args.code.now.functions) r c.args.to (number_on c.args.code.now c.args.step.by c.args.step.element c.args.step.back p)) c.args.sets.now c.loop-k.sets c.loop-k.added (omega (arith, c.len_of-k-end.ensures)) c.loop-k.invariant
