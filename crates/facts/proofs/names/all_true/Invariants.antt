use Rattle.std.proofs.Common.{◌≡◌, replicate, true}
use Rattle.facts.proofs.names.all_true.Given as goal

abbrev pub invariant-loop-k : goal.invariant-loop-k
invariant-loop-k l = l.all.items ≡ replicate l._k true
