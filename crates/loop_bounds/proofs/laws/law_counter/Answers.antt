use Rattle.loop_bounds.specs.Forms.{IsBorneOut}
use Rattle.loop_bounds.proofs.Borne.{borne_out}
use Rattle.loop_bounds.proofs.Turning.{stays}
use Rattle.loop_bounds.proofs.laws.law_counter.Goals as goal

pub returns : goal.returns
returns c s fn l start k rs h w lt le = let b : IsBorneOut fn.instrs l = borne_out fn l h in stays s fn.instrs l b start l.counter b.keeps_counter k rs w lt le
