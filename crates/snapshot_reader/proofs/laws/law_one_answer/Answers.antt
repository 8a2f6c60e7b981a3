use Rattle.snapshot_reader.proofs.OneAnswer.{one_answer}
use Rattle.snapshot_reader.proofs.laws.law_one_answer.Goals as goal

pub returns : goal.returns
returns c = one_answer
