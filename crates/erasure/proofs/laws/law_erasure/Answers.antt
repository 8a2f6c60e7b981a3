use Rattle.erasure.proofs.Weakens.{followed_run}
use Rattle.erasure.proofs.laws.law_erasure.Goals as goal

pub returns : goal.returns
returns c = λ p plain code setup labels end within fine strips globals kinds each follows runs. followed_run p code plain setup within fine strips globals kinds each follows labels end runs
