use Rattle.std.proofs.Common.{◌≡◌, drop}
use Rattle.facts.specs.Sets.{has}
use Rattle.facts.proofs.sets.has_item.Given as goal

abbrev pub invariant-loop-held : goal.invariant-loop-held
invariant-loop-held g l = has g.T.SetItem.same l.item l.items ≡ has g.T.SetItem.same l.item (drop l.held-index l.items)
