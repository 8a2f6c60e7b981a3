use Rattle.std.proofs.Common.{◌∙◌}
use Rattle.points_to.proofs.Laws.{taken}
use Rattle.points_to.proofs.filling.apply_waiting.Goals as goal

pub apply-requires-clause-one : goal.apply-requires-clause-one
apply-requires-clause-one c = taken c.args.constraints.now _ c.args.k _ c.requires.all c.requires.within

pub returns-clause-wide : goal.returns-clause-wide
returns-clause-wide c = c.in_ok-added.ensures.wide ∙ c.requires.wide

pub returns-clause-fine : goal.returns-clause-fine
returns-clause-fine c = c.in_ok-added.ensures.fine c.requires.fine
