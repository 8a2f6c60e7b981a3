use Rattle.std.proofs.Common.{◌≡◌, ◌++◌, ◌∷◌, [], length, map}
use Rattle.thread_interpreter.specs.Parts.{frame_part, AreWords}
use Rattle.thread_interpreter.proofs.resuming.frame_parts.Given as goal

abbrev pub invariant-loop-rest : goal.invariant-loop-rest
invariant-loop-rest l = record {
  same : map frame_part l.below ≡ l.parts ++ map frame_part l.rest;
  words : AreWords (l.rest ++ l.top ∷ []) → AreWords (l.below ++ l.top ∷ []);
}

abbrev pub decreases-loop-rest : goal.decreases-loop-rest
decreases-loop-rest l = length l.rest
