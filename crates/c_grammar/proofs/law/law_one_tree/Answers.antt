use Rattle.c_grammar.proofs.Exactly.{one_tree}
use Rattle.c_grammar.proofs.law.law_one_tree.Goals as goal

pub returns : goal.returns
returns c = one_tree
