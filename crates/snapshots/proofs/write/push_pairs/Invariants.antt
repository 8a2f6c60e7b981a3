use Rattle.std.proofs.Common.{◌≡◌, ◌++◌, map, take}
use Rattle.snapshots.specs.Text.{spaced, pair_text}
use Rattle.snapshots.proofs.write.push_pairs.Given as goal

abbrev pub invariant-loop-pair : goal.invariant-loop-pair
invariant-loop-pair l = l.out ≡ l.fn.out ++ spaced (map pair_text (take l.pair-index l.pairs))
