use Rattle.loop_bounds.proofs.Borne.{borne_out}
use Rattle.loop_bounds.proofs.Raising.{raised}
use Rattle.loop_bounds.proofs.laws.law_step.Goals as goal

pub returns : goal.returns
returns c s fn l start rs h fit w = raised s fn.instrs l start (record { borne = borne_out fn l h; fit = fit }) rs w
