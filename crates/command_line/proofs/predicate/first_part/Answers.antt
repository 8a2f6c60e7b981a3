use Rattle.std.proofs.Common.{arith}
use Rattle.command_line.proofs.PredicateParts.{no_comma}
use Rattle.command_line.proofs.predicate.first_part.Goals as goal

pub returns-in-None-clause-after : goal.returns-in-None-clause-after
returns-in-None-clause-after c = no_comma c.args.text.now (c.in-None.ensures.byte (omega arith) (λ w o h. h))
