use Rattle.std.proofs.Common.{arith, []}
use Rattle.race_pairs.specs.Races.{PairsFrom}
use Rattle.race_pairs.proofs.Gaining.{more}
use Rattle.race_pairs.proofs.Pairing.{pairs_all}
use Rattle.race_pairs.proofs.race.pairs_of.Goals as goal

pub loop-from-preserved : goal.loop-from-preserved
loop-from-preserved c = more (PairsFrom c.args.groups.now) c.loop-from.from [] c.loop-from.found.items c.add_from.new.found.items c.loop-from.invariant c.in_ok-add_from.ensures

pub returns : goal.returns
returns c = pairs_all c.args.groups.now c.loop-from.from [] c.loop-from.found.items (omega arith) c.loop-from.invariant
