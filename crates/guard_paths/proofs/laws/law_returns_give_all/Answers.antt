use Rattle.guard_paths.proofs.Covered.{returns_give_all}
use Rattle.guard_paths.proofs.laws.law_returns_give_all.Goals as goal

pub returns : goal.returns
returns c = returns_give_all
