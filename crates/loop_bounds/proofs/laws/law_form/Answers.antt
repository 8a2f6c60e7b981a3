use Rattle.loop_bounds.proofs.Borne.{borne_out}
use Rattle.loop_bounds.proofs.laws.law_form.Goals as goal

pub returns : goal.returns
returns c = borne_out
