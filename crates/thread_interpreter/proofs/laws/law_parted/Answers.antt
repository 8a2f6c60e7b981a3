use Rattle.thread_interpreter.proofs.Parted.{parted}
use Rattle.thread_interpreter.proofs.laws.law_parted.Goals as goal

pub returns : goal.returns
returns c = λ thread h. parted thread h
