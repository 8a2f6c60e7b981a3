use Rattle.chain_report.proofs.Exists.{chain_exists}
use Rattle.chain_report.proofs.laws.law_chain_exists.Goals as goal

pub returns : goal.returns
returns c = chain_exists
