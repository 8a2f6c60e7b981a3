use Rattle.loop_bounds.proofs.Touched.{element}
use Rattle.loop_bounds.proofs.laws.law_element.Goals as goal

pub returns : goal.returns
returns c = element
