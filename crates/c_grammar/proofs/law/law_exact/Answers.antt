use Rattle.c_grammar.proofs.Exactly.{parsed_exactly}
use Rattle.c_grammar.proofs.law.law_exact.Goals as goal

pub returns : goal.returns
returns c = parsed_exactly
