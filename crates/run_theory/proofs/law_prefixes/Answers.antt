use Rattle.run_theory.proofs.Prefixes.{comparable_paths}
use Rattle.run_theory.proofs.law_prefixes.Goals as goal

pub returns : goal.returns
returns g c = λ m start end other_end labels other t law free runs other_runs begins stops.
    comparable_paths m law labels other start end other_end runs other_runs free begins stops t
