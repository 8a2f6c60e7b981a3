use Rattle.profile_book.proofs.OneAnswer.{one_answer}
use Rattle.profile_book.proofs.law.law_one_answer.Goals as goal

pub returns : goal.returns
returns c bytes a b h k p q = one_answer bytes a b h k p q
