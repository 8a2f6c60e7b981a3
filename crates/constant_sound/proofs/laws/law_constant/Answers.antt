use Rattle.c_types.specs.Standing.{no_target}
use Rattle.constant_sound.proofs.Expressions.{denoted_is, value_fit, written_is}
use Rattle.constant_sound.proofs.laws.law_constant.Goals as goal

pub returns-clause-written : goal.returns-clause-written
returns-clause-written c p s t calls h e own k l = (written_is p s t calls h own no_target e k l).runs

pub returns-clause-folded : goal.returns-clause-folded
returns-clause-folded c p s t calls h e own k l = (denoted_is p s t calls h own no_target e k l).runs

pub returns-clause-fits : goal.returns-clause-fits
returns-clause-fits c = value_fit
