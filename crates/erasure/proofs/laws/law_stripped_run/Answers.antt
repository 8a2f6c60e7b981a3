use Rattle.erasure.proofs.Weakens.{stripped_run}
use Rattle.erasure.proofs.laws.law_stripped_run.Goals as goal

pub returns : goal.returns
returns c = stripped_run
