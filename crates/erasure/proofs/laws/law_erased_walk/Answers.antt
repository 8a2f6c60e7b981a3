use Rattle.erasure.proofs.Weakens.{weakened_walk}
use Rattle.erasure.proofs.laws.law_erased_walk.Goals as goal

pub returns : goal.returns
returns c = λ p t vs rs rows setup entries end sound within walks. weakened_walk p t vs rs rows sound setup entries end within walks
