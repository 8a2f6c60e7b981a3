use Rattle.thread_step.proofs.Operations.{operation_step}
use Rattle.thread_step.proofs.laws.law_operation.Goals as goal

pub returns : goal.returns
returns c = operation_step
