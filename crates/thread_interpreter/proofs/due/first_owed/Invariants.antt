use Rattle.std.proofs.Common.{◌≡◌, length}
use Rattle.flow_code.specs.Next.{first_owed as first_owed_of}
use Rattle.thread_interpreter.proofs.due.first_owed.Given as goal

abbrev pub invariant-loop-rest : goal.invariant-loop-rest
invariant-loop-rest l = first_owed_of l.rest ≡ first_owed_of l.stripes

abbrev pub decreases-loop-rest : goal.decreases-loop-rest
decreases-loop-rest l = length l.rest
