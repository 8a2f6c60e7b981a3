use Rattle.std.proofs.Common.{◌≡◌, ◌++◌, length, map}
use Rattle.thread_interpreter.specs.Parts.{stripe_part}
use Rattle.thread_interpreter.proofs.resuming.stripe_parts.Given as goal

abbrev pub invariant-loop-rest : goal.invariant-loop-rest
invariant-loop-rest l = record { same : map (stripe_part l.regions) l.stripes ≡ l.parts ++ map (stripe_part l.regions) l.rest }

abbrev pub decreases-loop-rest : goal.decreases-loop-rest
decreases-loop-rest l = length l.rest
