use Rattle.std.proofs.Common.{◌≡◌, ◌++◌, length, map}
use Rattle.thread_interpreter.specs.Parts.{region_of}
use Rattle.thread_interpreter.proofs.resuming.regions_of.Given as goal

abbrev pub invariant-loop-rest : goal.invariant-loop-rest
invariant-loop-rest l = record { same : map region_of l.parts ≡ l.regions.items ++ map region_of l.rest }

abbrev pub decreases-loop-rest : goal.decreases-loop-rest
decreases-loop-rest l = length l.rest
