use Rattle.std.proofs.Common.{arith}
use Rattle.facts.proofs.Merging.{merged_end}
use Rattle.facts.proofs.sets.merged.Goals as goal

pub returns : goal.returns
returns g c = merged_end g.T.SetItem.less g.T.SetItem.same c.requires.orders c.args.items.now c.args.others.now c.loop-item.merged c.loop-item.rest.now c.push_all.new.merged c.loop-item.item-index (omega arith) c.in_ok-push_all.ensures c.loop-item.invariant c.requires.ascending
