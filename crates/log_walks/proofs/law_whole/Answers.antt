use Rattle.log_walks.proofs.Walks.{come, whole}
use Rattle.log_walks.proofs.law_whole.Goals as goal

pub returns : goal.returns
returns c = λ code s es departure end runnable limits free f of. whole code s runnable limits es departure end (come code s runnable limits es departure end f) of free
