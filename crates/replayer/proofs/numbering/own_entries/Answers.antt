use Rattle.replayer.proofs.Numbers.{few_wanted}
use Rattle.replayer.proofs.numbering.own_entries.Goals as goal

pub returns-clause-few : goal.returns-clause-few
returns-clause-few c = few_wanted c.args.thread c.args.noted.now c.loop-rest.wanted c.loop-rest.position c.loop-rest.rest.now c.loop-rest.invariant c.requires
