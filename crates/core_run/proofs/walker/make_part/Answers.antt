use Rattle.std.proofs.Common.{subst}
use Rattle.core_run.specs.Shown.{PartEndIs}
use Rattle.core_run.proofs.walker.make_part.Goals as goal

pub returns-in-Made-clause-part : goal.returns-in-Made-clause-part
returns-in-Made-clause-part c = λ st shown.
    (subst (PartEndIs c.args.code.now c.args.setup.now c.args.formula.now c.args.entry st c.walk_part.new.flows.items c.walk_part.new.words.items c.walk_part.new.reads.items c.args.out.now c.walk_part.new.out) c.in-Made.is (c.in_ok-end.ensures.part st shown)).0

pub returns-in-Refused-clause-part : goal.returns-in-Refused-clause-part
returns-in-Refused-clause-part c = λ st shown.
    (subst (PartEndIs c.args.code.now c.args.setup.now c.args.formula.now c.args.entry st c.walk_part.new.flows.items c.walk_part.new.words.items c.walk_part.new.reads.items c.args.out.now c.walk_part.new.out) c.in-Refused.is (c.in_ok-end.ensures.part st shown)).0

pub returns-in-Outside-clause-part : goal.returns-in-Outside-clause-part
returns-in-Outside-clause-part c = λ st shown.
    (subst (PartEndIs c.args.code.now c.args.setup.now c.args.formula.now c.args.entry st c.walk_part.new.flows.items c.walk_part.new.words.items c.walk_part.new.reads.items c.args.out.now c.walk_part.new.out) c.in-Outside.is (c.in_ok-end.ensures.part st shown)).0
