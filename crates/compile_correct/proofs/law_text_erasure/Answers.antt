use Rattle.c_elaborate.specs.Whole.{core_of_source}
use Rattle.erasure.proofs.Weakens.{weakened_run}
use Rattle.front.proofs.Few.{few_enough}
use Rattle.front.proofs.Sources.{source_sound}
use Rattle.front.specs.Plain.{plain_code}
use Rattle.compile_correct.proofs.law_text_erasure.Goals as goal

pub returns : goal.returns
unfolding plain_code
returns c = λ text os t vs rs rows setup labels end short reads within runs. weakened_run (core_of_source os) t vs rs rows (source_sound text os reads (few_enough text os reads short)) setup labels end within runs
