use Rattle.guard_paths.proofs.Covered.{guarded}
use Rattle.guard_paths.proofs.laws.law_accesses_are_guarded.Goals as goal

pub returns : goal.returns
returns c = guarded
