use Rattle.std.proofs.Common.{◌≤◌, List, length, subst}
use Rattle.flow_code.specs.declared.code.Function.{Function}
use Rattle.grain_choice.proofs.Firsts.{have_firsts}
use Rattle.grain_choice.proofs.blocks.block_firsts.Goals as goal

pub returns : goal.returns
returns c = have_firsts c.args.code.now c.loop-function.firsts c.loop-function.function-index (subst (λ (z : List Function). length z ≤ c.loop-function.function-index) c.as_slice-function-items.ensures c.loop-function-test.false) c.loop-function.invariant.long c.loop-function.invariant.each
