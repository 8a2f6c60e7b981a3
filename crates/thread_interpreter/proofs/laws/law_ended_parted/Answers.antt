use Rattle.thread_interpreter.proofs.Parted.{ended_parted}
use Rattle.thread_interpreter.proofs.laws.law_ended_parted.Goals as goal

pub returns : goal.returns
returns c = λ thread h. ended_parted thread h
