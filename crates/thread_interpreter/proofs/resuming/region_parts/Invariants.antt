use Rattle.std.proofs.Common.{◌≡◌, ◌++◌, length, map}
use Rattle.thread_interpreter.specs.Parts.{region_part}
use Rattle.thread_interpreter.proofs.resuming.region_parts.Given as goal

abbrev pub invariant-loop-rest : goal.invariant-loop-rest
invariant-loop-rest l = record { same : map region_part l.regions ≡ l.parts ++ map region_part l.rest }

abbrev pub decreases-loop-rest : goal.decreases-loop-rest
decreases-loop-rest l = length l.rest
