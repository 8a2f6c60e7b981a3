use Rattle.std.proofs.Common.{arith}
use Rattle.race_pairs.proofs.Pairing.{rows_more_as, rows_all}
use Rattle.race_pairs.proofs.race.add_all.Goals as goal

pub loop-at-preserved : goal.loop-at-preserved
loop-at-preserved c = rows_more_as c.args.group.now c.args.other.now c.args.is_same c.loop-at.at c.at.result.now c.first_of.result c.as_slice.result.now c.args.found.now.items c.loop-at.found.items c.add_row.new.found.items c.at.ensures c.first_of.ensures c.as_slice.ensures c.loop-at.invariant c.in_ok-add_row.ensures

pub returns : goal.returns
returns c = rows_all c.args.group.now c.args.other.now c.args.is_same c.loop-at.at c.args.found.now.items c.loop-at.found.items c.requires (omega arith) c.loop-at.invariant
