use Rattle.std.proofs.Common.{◌≤◌}
use Rattle.lockset_summary.specs.Exits.{AreFalling, weights}
use Rattle.lockset_summary.proofs.exits.lower_all.Given as goal

abbrev pub invariant-loop-k : goal.invariant-loop-k
invariant-loop-k l = record {
  falling : AreFalling l.code l.tops l.exits;
  lower : weights l.exits ≤ weights l.fn.exits;
}
