use Rattle.thread_interpreter.proofs.FlowFacts.{known_store}
use Rattle.thread_interpreter.proofs.flow.Flow.due_of.Goals as goal

pub returns-in-Store : goal.returns-in-Store
returns-in-Store c = known_store _ _ _ _ _ _ _ c.requires c.in-Store.is
