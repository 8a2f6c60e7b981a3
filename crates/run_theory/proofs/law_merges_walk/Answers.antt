use Rattle.run_theory.proofs.Merges.{merge_walks}
use Rattle.run_theory.proofs.law_merges_walk.Goals as goal

pub returns : goal.returns
returns g c = λ m start end labels merged law free runs ended merges.
    merge_walks m law merged labels start end runs free ended merges
