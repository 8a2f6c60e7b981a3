use Rattle.std.proofs.Common.{◌≡◌, ◌++◌, length}
use Rattle.thread_interpreter.specs.Stacks.{functions_of}
use Rattle.thread_interpreter.proofs.state.functions_of.Given as goal

abbrev pub invariant-loop-rest : goal.invariant-loop-rest
invariant-loop-rest l = record { same : functions_of l.frames ≡ l.functions ++ functions_of l.rest }

abbrev pub decreases-loop-rest : goal.decreases-loop-rest
decreases-loop-rest l = length l.rest
