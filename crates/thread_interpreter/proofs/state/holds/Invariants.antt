use Rattle.std.proofs.Common.{◌≡◌, length}
use Rattle.flow_code.specs.Next.{holds as holds_stripe}
use Rattle.thread_interpreter.proofs.state.holds.Given as goal

abbrev pub invariant-loop-rest : goal.invariant-loop-rest
invariant-loop-rest l = holds_stripe l.rest l.lock l.stripe ≡ holds_stripe l.stripes l.lock l.stripe

abbrev pub decreases-loop-rest : goal.decreases-loop-rest
decreases-loop-rest l = length l.rest
