use Rattle.weak_valid.proofs.Valid.{weakened_valid}
use Rattle.weak_valid.proofs.laws.law_weakened_code_is_valid.Goals as goal

pub returns : goal.returns
returns c = weakened_valid
