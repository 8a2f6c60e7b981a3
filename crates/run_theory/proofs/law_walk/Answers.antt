use Rattle.run_theory.proofs.Solo.{solo_of_walk, walk_of_solo}
use Rattle.run_theory.proofs.law_walk.Goals as goal

pub returns : goal.returns
returns g c = λ m start end entries law. (solo_of_walk m entries start end, walk_of_solo m law entries start end)
