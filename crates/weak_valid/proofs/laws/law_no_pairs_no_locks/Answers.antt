use Rattle.weak_valid.proofs.NoPairs.{no_pairs}
use Rattle.weak_valid.proofs.laws.law_no_pairs_no_locks.Goals as goal

pub returns : goal.returns
returns c = no_pairs
