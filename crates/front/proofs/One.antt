-- A text has one reading.
use Rattle.std.proofs.Common.{◌≡◌, List, Some, Result, Ok, Err, sym, ◌∙◌}
use Rattle.c_lexer.specs.declared.fault.LexFault.{LexFault}
use Rattle.c_lexer.specs.declared.token.Token.{Token}
use Rattle.c_lexer.specs.Tokens.{tokens_of}
use Rattle.c_tree.specs.Tree.{Outer}
use Rattle.c_grammar.specs.Exact.{parsed}
use Rattle.c_parse_rules.specs.Gives.{limit, lexemes}
use Rattle.c_grammar.specs.Parse.{Outcome, Got, Stuck, Spent}
use Rattle.front.specs.Readings.{Reading, IsByTree, IsByTokens, OneReading}

one_by_tree : (tokens : List Token) (o : Outcome (List Outer)) (r s : Reading) → IsByTree tokens o r → IsByTree tokens o s → r ≡ s
one_by_tree tokens (Got os rest) r s h g = h ∙ sym g
one_by_tree tokens (Stuck fault rest) r s h g = h ∙ sym g
one_by_tree tokens Spent r s h g = absurd h

same_some : {A : Type 0} (x y : A) → Some x ≡ Some y → x ≡ y
same_some x y e = cc e

one_by_tokens : (ts : Result (List Token) LexFault) (r s : Reading) → IsByTokens ts r → IsByTokens ts s → r ≡ s
one_by_tokens (Ok tokens) r s h g = one_by_tree tokens (parsed limit (lexemes tokens)) r s h g
one_by_tokens (Err fault) r s h g = same_some r s (sym h ∙ g)

pub one_reading : OneReading
one_reading text r s h g = one_by_tokens (tokens_of text) r s h g
