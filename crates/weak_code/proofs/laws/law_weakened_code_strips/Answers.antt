use Rattle.weak_code.proofs.Stripping.{strip-weakened}
use Rattle.weak_code.proofs.laws.law_weakened_code_strips.Goals as goal

pub returns : goal.returns
returns c = strip-weakened
