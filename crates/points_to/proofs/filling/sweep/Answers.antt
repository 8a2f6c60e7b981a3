use Rattle.std.proofs.Common.{arith, ◌∙◌}
use Rattle.points_to.specs.Filling.{IsSwept}
use Rattle.points_to.proofs.Adding.{more_to, all_to}
use Rattle.points_to.proofs.filling.sweep.Goals as goal

pub sweep_at-requires-clause-wide : goal.sweep_at-requires-clause-wide
sweep_at-requires-clause-wide c = c.loop-k.invariant.wide ∙ c.requires.wide

pub sweep_at-requires-clause-fine : goal.sweep_at-requires-clause-fine
sweep_at-requires-clause-fine c = c.loop-k.invariant.fine c.requires.fine

pub loop-k-preserved : goal.loop-k-preserved
loop-k-preserved c = more_to c.args.code.now c.loop-k.k c.args.from (IsSwept c.args.code.now c.args.to c.args.stride) c.args.sets.now c.loop-k.sets c.sweep_at.new.sets c.loop-k.added c.in_ok-added.field-0 c.loop-k.invariant c.in_ok-added.ensures

pub returns : goal.returns
returns c = all_to c.args.code.now c.loop-k.k c.args.from (IsSwept c.args.code.now c.args.to c.args.stride) c.args.sets.now c.loop-k.sets c.loop-k.added (omega (arith, c.len_of-k-end.ensures)) c.loop-k.invariant
