use Rattle.front.proofs.Few.{few_enough}
use Rattle.front.proofs.Sources.{source_sound}
use Rattle.front.proofs.laws.law_sound.Goals as goal

pub returns : goal.returns
returns c = λ text os short reads. source_sound text os reads (few_enough text os reads short)
