use Rattle.std.proofs.Common.{◌≡◌, ◌++◌, take, drop}
use Rattle.facts.specs.Sets.{with}
use Rattle.facts.proofs.sets.place_for.Given as goal

abbrev pub invariant-loop-held : goal.invariant-loop-held
invariant-loop-held g l = record {
  place : l.place ≡ l.held-index;
  same : with g.T.SetItem.less g.T.SetItem.same l.item l.items ≡ take l.held-index l.items ++ with g.T.SetItem.less g.T.SetItem.same l.item (drop l.held-index l.items);
}
