use Rattle.lockset_flow.proofs.Greatest.{start_long, greatest, sized_end}
use Rattle.lockset_flow.proofs.flow.flow_function.Goals as goal

pub settle-requires-clause-long : goal.settle-requires-clause-long
settle-requires-clause-long c = start_long c.args.top.now c.len.result _ c.in_ok-facts.facts c.in_ok-facts.ensures c.len.ensures

pub returns-clause-greatest : goal.returns-clause-greatest
returns-clause-greatest c = greatest c.args.exits.now c.args.function.now c.args.top.now c.len.result c.in_ok-facts.facts c.settle.new.facts c.len.ensures c.in_ok-facts.ensures c.requires.ascending c.requires.top c.in_ok-settle.ensures

pub returns-clause-sized : goal.returns-clause-sized
returns-clause-sized c = sized_end c.args.exits.now c.args.function.now c.args.top.now c.len.result c.in_ok-facts.facts c.settle.new.facts c.in_ok-facts.ensures c.requires.ascending c.requires.top c.in_ok-settle.ensures
