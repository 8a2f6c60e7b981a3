use Rattle.std.proofs.Common.{◌≡◌, true, drop}
use Rattle.flow_code.specs.Regions.{ascend}
use Rattle.weak_code.specs.Stretches.{with_all}
use Rattle.weaken.proofs.locks.put_all.Given as goal

abbrev pub invariant-loop-number : goal.invariant-loop-number
invariant-loop-number l = record {
  up : ascend l.found ≡ true;
  same : with_all l.found (drop l.number-index l.more) ≡ with_all l.initial.found l.more;
}
