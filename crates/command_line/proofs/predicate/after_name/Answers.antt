use Rattle.command_line.proofs.PredicateParts.{stripped}
use Rattle.command_line.proofs.predicate.after_name.Goals as goal

pub returns : goal.returns
returns c = stripped c.args.name.now c.args.text.now c.strip_prefix.result c.strip_prefix.ensures.cases
