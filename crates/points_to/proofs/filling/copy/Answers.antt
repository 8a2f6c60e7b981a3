use Rattle.std.proofs.Common.{arith, length, ◌∙◌}
use Rattle.points_to.specs.Nodes.{Has}
use Rattle.points_to.proofs.Adding.{more_to, all_to}
use Rattle.points_to.proofs.filling.copy.Goals as goal

pub copy_at-requires-clause-wide : goal.copy_at-requires-clause-wide
copy_at-requires-clause-wide c = c.loop-k.invariant.wide ∙ c.requires.wide

pub loop-k-preserved : goal.loop-k-preserved
loop-k-preserved c = more_to c.args.code.now c.loop-k.k c.args.from (λ p r. Has (length c.args.code.now.functions) r c.args.to p) c.args.sets.now c.loop-k.sets c.copy_at.new.sets c.loop-k.added c.in_ok-added.field-0 c.loop-k.invariant c.in_ok-added.ensures

pub returns : goal.returns
returns c = all_to c.args.code.now c.loop-k.k c.args.from (λ p r. Has (length c.args.code.now.functions) r c.args.to p) c.args.sets.now c.loop-k.sets c.loop-k.added (omega (arith, c.len_of-k-end.ensures)) c.loop-k.invariant
