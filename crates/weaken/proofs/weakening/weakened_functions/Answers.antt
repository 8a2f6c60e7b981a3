use Rattle.std.proofs.Common.{arith}
use Rattle.weaken.proofs.Chosen.{functions_step_in}
use Rattle.weaken.proofs.weakening.weakened_functions.Goals as goal

pub loop-number-preserved : goal.loop-number-preserved
loop-number-preserved c = functions_step_in c.args.code.now c.args.points.now c.args.locked.now c.args.ranges.now c.args.rows.now c.loop-number.number c.in_ok-function.function c.loop-number.functions c.push.new.self _ (omega (arith, c.len-count.ensures)) c.in_ok-function.ensures c.in_ok-push.ensures.ok c.loop-number.invariant
