use Rattle.c_elaborate.specs.Whole.{core_of_source}
use Rattle.front.proofs.Few.{few_enough}
use Rattle.front.proofs.Sources.{source_sound}
use Rattle.lowering_simulation.proofs.Sources.{walk_events}
use Rattle.front.specs.Plain.{plain_code}
use Rattle.compile_correct.proofs.law_text_walk.Goals as goal

pub returns : goal.returns
unfolding plain_code
returns c = λ text os setup entries end short reads within walks. walk_events (core_of_source os) setup entries end (source_sound text os reads (few_enough text os reads short)) within walks
