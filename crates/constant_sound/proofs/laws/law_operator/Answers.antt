use Rattle.constant_sound.proofs.Arithmetic.{operator_same, computed_fits}
use Rattle.constant_sound.proofs.laws.law_operator.Goals as goal

pub returns-clause-same : goal.returns-clause-same
returns-clause-same c = operator_same

pub returns-clause-fits : goal.returns-clause-fits
returns-clause-fits c o a b n ha hb = computed_fits o a b ha hb n
