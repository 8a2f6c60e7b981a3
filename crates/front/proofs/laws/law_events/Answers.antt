use Rattle.front.proofs.Few.{few_enough}
use Rattle.front.proofs.Sources.{source_events}
use Rattle.front.proofs.laws.law_events.Goals as goal

pub returns : goal.returns
returns c = λ text os s t m short reads. source_events text os s t m reads (few_enough text os reads short)
