use Rattle.run_walk.proofs.Ended.{few_remain}
use Rattle.run_walk.proofs.whole.whole_walk.Goals as goal

pub from_remains-requires : goal.from_remains-requires
from_remains-requires c = few_remain c.args.code.now c.args.setup.now c.args.entries.now c.args.remains.now c.requires.walked c.slots-slots.ensures.within.few_slots
