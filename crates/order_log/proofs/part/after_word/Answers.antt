use Rattle.order_log.proofs.Parts.{stripped}
use Rattle.order_log.proofs.part.after_word.Goals as goal

pub returns : goal.returns
returns c = stripped c.args.word.now c.args.text.now c.strip_prefix.result c.strip_prefix.ensures.cases
