use Rattle.flow_code.specs.Valid as validity
use Rattle.c_tree.specs.View.{program_of}
use Rattle.front.proofs.Few.{few_enough}
use Rattle.front.proofs.Sources.{valid_code, runnable_code, ok_as}
use Rattle.front.proofs.code.plain.Goals as goal

pub returns-in-Ok-clause-valid : goal.returns-in-Ok-clause-valid
returns-in-Ok-clause-valid c =
    let os = program_of c.in-Ok.typed.program in
    ok_as c.code_of.result _ _ (λ code e. valid_code c.args.text.now os code c.in-Ok.ensures.sound e (few_enough c.args.text.now os c.in-Ok.ensures.sound c.requires)) c.code_of.ensures.code

pub returns-in-Ok-clause-runnable : goal.returns-in-Ok-clause-runnable
returns-in-Ok-clause-runnable c =
    let os = program_of c.in-Ok.typed.program in
    ok_as c.code_of.result _ _ (λ code e. runnable_code c.args.text.now os code c.in-Ok.ensures.sound e (few_enough c.args.text.now os c.in-Ok.ensures.sound c.requires)) c.code_of.ensures.code
