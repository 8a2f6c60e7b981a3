use Rattle.std.proofs.Common.{arith, ◌∙◌}
use Rattle.facts.specs.declared.constraint.Node.TheVariants.{Cells}
use Rattle.points_to.specs.Nodes.{place_from}
use Rattle.points_to.specs.Filling.{Holds}
use Rattle.points_to.proofs.Adding.{more_to, all_to}
use Rattle.points_to.proofs.filling.load.Goals as goal

pub load_at-requires-clause-wide : goal.load_at-requires-clause-wide
load_at-requires-clause-wide c = c.loop-k.invariant.wide ∙ c.requires.wide

pub load_at-requires-clause-fine : goal.load_at-requires-clause-fine
load_at-requires-clause-fine c = c.loop-k.invariant.fine c.requires.fine

pub loop-k-preserved : goal.loop-k-preserved
loop-k-preserved c = more_to c.args.code.now c.loop-k.k c.args.through (λ o r. Holds c.args.code.now (Cells (place_from o)) c.args.into r) c.args.sets.now c.loop-k.sets c.load_at.new.sets c.loop-k.added c.in_ok-added.field-0 c.loop-k.invariant c.in_ok-added.ensures

pub returns : goal.returns
returns c = all_to c.args.code.now c.loop-k.k c.args.through (λ o r. Holds c.args.code.now (Cells (place_from o)) c.args.into r) c.args.sets.now c.loop-k.sets c.loop-k.added (omega (arith, c.len_of-k-end.ensures)) c.loop-k.invariant
