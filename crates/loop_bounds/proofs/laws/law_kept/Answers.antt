use Rattle.loop_bounds.proofs.Borne.{borne_out, kept_there}
use Rattle.loop_bounds.proofs.Turning.{stays}
use Rattle.loop_bounds.proofs.laws.law_kept.Goals as goal

pub returns : goal.returns
returns c s fn l start r k rs h q w lt le = stays s fn.instrs l (borne_out fn l h) start r (λ m low high apart. kept_there fn.instrs l r m q low high) k rs w lt le
