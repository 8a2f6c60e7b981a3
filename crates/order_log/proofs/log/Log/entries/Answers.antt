use Rattle.order_log.proofs.Few.{few_entries}
use Rattle.order_log.proofs.log.Log.entries.Goals as goal

pub returns-clause-few : goal.returns-clause-few
returns-clause-few c = rw (← c.self.view_is) (few_entries c.self.inside.setup c.self.inside.entries c.self.invariant.1.setup c.self.invariant.1.entries)
