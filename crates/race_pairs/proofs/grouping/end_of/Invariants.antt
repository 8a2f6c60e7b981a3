use Rattle.std.proofs.Common.{◌≡◌, ℕ, ◌<◌, Some}
use Rattle.std.specs.Prelude.{slice_get}
use Rattle.race_pairs.specs.declared.touch.Touch.{Touch}
use Rattle.race_pairs.specs.Groups.{Alike}
use Rattle.race_pairs.proofs.grouping.end_of.Given as goal

abbrev pub invariant-loop-at : goal.invariant-loop-at
invariant-loop-at l = (k : ℕ) (v w : Touch) → l.from < k → k < l.at → slice_get l.touches l.from ≡ Some v → slice_get l.touches k ≡ Some w → Alike l.summaries v w
