use Rattle.c_grammar.proofs.Prints.{prints}
use Rattle.c_grammar.proofs.law.law_prints.Goals as goal

pub returns : goal.returns
returns c = prints
