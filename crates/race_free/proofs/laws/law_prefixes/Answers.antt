use Rattle.race_free.proofs.Ends.{prefixes}
use Rattle.race_free.proofs.laws.law_prefixes.Goals as goal

pub returns : goal.returns
returns c = λ a setup labels other end other_end t h limits runs other_runs begins stops. prefixes a setup labels other end other_end t h limits runs other_runs begins stops
