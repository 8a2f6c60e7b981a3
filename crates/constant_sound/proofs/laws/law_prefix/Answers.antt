use Rattle.constant_sound.proofs.Arithmetic.{minus_same, complement_same, not_same}
use Rattle.constant_sound.proofs.laws.law_prefix.Goals as goal

pub returns-clause-minus : goal.returns-clause-minus
returns-clause-minus c = minus_same

pub returns-clause-complement : goal.returns-clause-complement
returns-clause-complement c = complement_same

pub returns-clause-not : goal.returns-clause-not
returns-clause-not c = not_same
