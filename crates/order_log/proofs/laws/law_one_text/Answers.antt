use Rattle.order_log.proofs.Only.{same_text-same_log}
use Rattle.order_log.proofs.laws.law_one_text.Goals as goal

pub returns : goal.returns
returns c bytes v w log_v log_w e f = same_text-same_log bytes v w log_v log_w e f
