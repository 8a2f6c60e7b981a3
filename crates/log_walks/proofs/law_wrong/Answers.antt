use Rattle.log_walks.proofs.Walks.{wrong}
use Rattle.log_walks.proofs.law_wrong.Goals as goal

pub returns : goal.returns
returns c = λ code s es departure end runnable limits free f of. wrong code s runnable limits es departure end f of free
