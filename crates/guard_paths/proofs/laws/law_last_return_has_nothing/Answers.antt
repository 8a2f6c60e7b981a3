use Rattle.guard_paths.proofs.Ends.{nothing_left}
use Rattle.guard_paths.proofs.laws.law_last_return_has_nothing.Goals as goal

pub returns : goal.returns
returns c = nothing_left
