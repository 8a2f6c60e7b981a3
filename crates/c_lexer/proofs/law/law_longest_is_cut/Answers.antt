use Rattle.c_lexer.proofs.Laws.{longest}
use Rattle.c_lexer.proofs.law.law_longest_is_cut.Goals as goal

pub returns : goal.returns
returns c = longest
