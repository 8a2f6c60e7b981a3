use Rattle.std.proofs.Common.{◌≡◌, ◌++◌, ◌*◌}
use Rattle.std.specs.Prelude.{replicate}
use Rattle.core_run.proofs.start.push_stripes.Given as goal

abbrev pub invariant-loop-k : goal.invariant-loop-k
invariant-loop-k l = record { words : l.words.items ≡ l.initial.words.items ++ replicate (8 * l._k) 0 }
