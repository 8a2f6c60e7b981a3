use Rattle.std.proofs.Common.{Ok}
use Rattle.order_log.proofs.Kept.{given_right, given_only}
use Rattle.order_log.proofs.read.read_log.Goals as goal

pub returns-clause-answer : goal.returns-clause-answer
returns-clause-answer c = given_right c.args.bytes.now c.log_in.result c.log_in.ensures

pub returns-clause-only : goal.returns-clause-only
returns-clause-only c other h = given_only c.args.bytes.now c.log_in.result other c.log_in.ensures h

pub returns-clause-again : goal.returns-clause-again
returns-clause-again c v log within text = given_only c.args.bytes.now c.log_in.result (Ok v) c.log_in.ensures (log, within, text)
