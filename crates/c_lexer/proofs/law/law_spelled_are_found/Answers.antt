use Rattle.c_lexer.proofs.Laws.{spelled_are_found}
use Rattle.c_lexer.proofs.law.law_spelled_are_found.Goals as goal

pub returns : goal.returns
returns c = spelled_are_found
