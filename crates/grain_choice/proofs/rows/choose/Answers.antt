use Rattle.grain_choice.proofs.Basing.{chosen}
use Rattle.grain_choice.proofs.rows.choose.Goals as goal

pub returns : goal.returns
returns c = chosen c.args.code.now c.args.pairs.now c.args.ranges.now c.args.profile.now c.in_ok-basis.basis c.as_slice.result.now c.as_slice-2.result.now c.as_slice-3.result.now c.in_ok-racy.racy.items c.deref.result.now c.in_ok-rows.rows c.as_slice.ensures c.as_slice-2.ensures c.as_slice-3.ensures c.in_ok-racy.ensures c.in_ok-basis.ensures c.deref.ensures.value c.in_ok-rows.ensures
