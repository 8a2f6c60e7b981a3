use Rattle.std.proofs.Common.{◌≡◌, ◌-◌, ◌≤◌, ◌++◌, map}
use Rattle.std.specs.List.{filter_map}
use Rattle.snapshots.specs.Snapshots.{numbers_from}
use Rattle.checkpoint.specs.Groups.{in_group, listed_of, object_at}
use Rattle.checkpoint.proofs.grouped.list_group.Given as goal

abbrev pub invariant-loop-number : goal.invariant-loop-number
invariant-loop-number l = record {
  within : l.number ≤ l.count;
  found : l.found ++ filter_map (listed_of l.cells l.words) (map (λ k. object_at l.group k) (numbers_from l.number (l.count - l.number))) ≡ l.fn.found ++ filter_map (listed_of l.cells l.words) (in_group l.group l.count);
}

abbrev pub decreases-loop-number : goal.decreases-loop-number
decreases-loop-number l = l.count - l.number
