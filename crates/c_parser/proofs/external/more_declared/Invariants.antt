use Rattle.std.proofs.Common.{◌≡◌, map, length}
use Rattle.c_tree.specs.View.{declared_of}
use Rattle.c_parse_rules.specs.Gives.{limit, lexemes}
use Rattle.c_grammar.specs.Phrase as phrase
use Rattle.c_grammar.specs.Rules.{read}
use Rattle.c_parser.proofs.external.more_declared.Given as goal

-- what is read so far and the rest make the whole
abbrev pub invariant-declarators : goal.invariant-declarators
invariant-declarators l = read limit (phrase.more_declared (map declared_of l.found)) (lexemes l.rest) ≡ read limit (phrase.more_declared (map declared_of l.fn.found)) (lexemes l.fn.tokens)

abbrev pub decreases-declarators : goal.decreases-declarators
decreases-declarators l = length l.rest
