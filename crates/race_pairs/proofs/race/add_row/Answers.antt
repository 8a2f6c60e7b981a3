use Rattle.std.proofs.Common.{arith}
use Rattle.race_pairs.proofs.Pairing.{row_more, row_all}
use Rattle.race_pairs.proofs.race.add_row.Goals as goal

pub loop-at-preserved : goal.loop-at-preserved
loop-at-preserved c = row_more c.args.place c.args.access c.args.others.now c.args.from c.loop-at.at _ c.pair_of.result c.args.found.now.items c.loop-at.found.items c.add_pair.new.found.items (omega arith) (omega arith) c.loop-at.invariant c.pair_of.ensures c.in_ok-add_pair.ensures

pub returns : goal.returns
returns c = row_all c.args.place c.args.access c.args.others.now c.args.from c.loop-at.at c.args.found.now.items c.loop-at.found.items (omega arith) c.loop-at.invariant
