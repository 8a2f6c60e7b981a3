use Rattle.walk_chains.proofs.One.{one_chain}
use Rattle.walk_chains.proofs.law.law_one_chain.Goals as goal

pub returns : goal.returns
returns c = one_chain
