use Rattle.lockset_summary.proofs.Knowing.{add_same, add_longer}
use Rattle.lockset_summary.proofs.universe.add.Goals as goal

pub returns-clause-same : goal.returns-clause-same
returns-clause-same c = add_same c.args.path c.args.row.now c.add_item.new.items c.len-before.result c.len-following.result c.len-before.ensures c.len-following.ensures c.in_ok-add_item.ensures

pub returns-clause-longer : goal.returns-clause-longer
returns-clause-longer c = add_longer c.args.path c.args.row.now c.add_item.new.items c.len-before.result c.len-following.result c.len-before.ensures c.len-following.ensures c.in_ok-add_item.ensures c.len-following.type_inv
