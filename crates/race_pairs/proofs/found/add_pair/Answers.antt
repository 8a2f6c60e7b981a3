use Rattle.race_pairs.proofs.Pairing.{pushed_on}
use Rattle.race_pairs.proofs.found.add_pair.Goals as goal

pub returns : goal.returns
returns c = pushed_on c.args.found.now.items c.keep_room.new.found.items c.push.new.self.items c.args.pair c.in_ok-keep_room.ensures c.in_ok-push.ensures.items
