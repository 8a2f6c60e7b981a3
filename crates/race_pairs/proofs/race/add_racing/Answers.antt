use Rattle.race_pairs.proofs.Pairing.{already_paired, now_paired}
use Rattle.race_pairs.proofs.race.add_racing.Goals as goal

pub returns-then-has_accesses-clause-pairs : goal.returns-then-has_accesses-clause-pairs
returns-then-has_accesses-clause-pairs c = already_paired c.args.group.now c.args.other.now c.args.paired.now c.args.found.now.items (c.has_accesses.ensures.0 c.if-has_accesses.true) c.requires.paired

pub returns-clause-paired : goal.returns-clause-paired
returns-clause-paired c = now_paired c.args.group.now c.args.other.now c.as_slice.result.now c.args.found.now.items c.add_all.new.found.items c.as_slice.ensures c.in_ok-add_all.ensures
