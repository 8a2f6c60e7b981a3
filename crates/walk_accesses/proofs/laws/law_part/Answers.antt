use Rattle.walk_accesses.proofs.PartOf.{in_part}
use Rattle.walk_accesses.proofs.laws.law_part.Goals as goal

pub returns : goal.returns
returns c = λ code setup entries x runnable limits here. in_part code setup runnable limits entries x here
