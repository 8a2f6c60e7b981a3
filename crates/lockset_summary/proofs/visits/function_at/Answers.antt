use Rattle.std.proofs.Common.{◌<◌, length}
use Rattle.std.proofs.lemmas.List.Elements.{All-get_or}
use Rattle.lockset_summary.proofs.visits.function_at.Goals as goal

pub returns-clause-within : goal.returns-clause-within
returns-clause-within c = All-get_or (λ g. g < length c.args._code.now.functions) c.args.order.now c.args.k _ c.requires.within c.requires.order.within
