use Rattle.erasure.proofs.Weakens.{stripped_walk}
use Rattle.erasure.proofs.laws.law_stripped_walk.Goals as goal

pub returns : goal.returns
returns c = stripped_walk
