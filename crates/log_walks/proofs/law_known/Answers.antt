use Rattle.log_walks.proofs.Walks.{known}
use Rattle.log_walks.proofs.law_known.Goals as goal

pub returns : goal.returns
returns c = λ code s es departure end runnable limits free f of few wrong. known code s runnable limits es departure end f of free few wrong
