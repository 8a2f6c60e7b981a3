use Rattle.c_elaborate.specs.Whole.{core_of_source}
use Rattle.front.proofs.Few.{few_enough}
use Rattle.front.proofs.Sources.{source_sound}
use Rattle.lowering_simulation.proofs.Sources.{source_run}
use Rattle.front.specs.Plain.{plain_code}
use Rattle.compile_correct.proofs.law_text_run.Goals as goal

pub returns : goal.returns
unfolding plain_code
returns c = λ text os setup labels end short reads within runs. source_run (core_of_source os) setup labels end (source_sound text os reads (few_enough text os reads short)) within runs
