use Rattle.lock_sound.proofs.Running.{code_runs}
use Rattle.language_rows.proofs.answered.walked.Goals as goal

pub walk-requires-clause-runnable : goal.walk-requires-clause-runnable
walk-requires-clause-runnable c = code_runs c.args.weakened.now c.code-code.result.now c.code-code.ensures.kept c.code-code.ensures.value
