use Rattle.std.proofs.Common.{◌≡◌, [], map, length}
use Rattle.c_tree.specs.View.{outer_of}
use Rattle.c_parse_rules.specs.Gives.{limit, lexemes}
use Rattle.c_grammar.specs.Phrase as phrase
use Rattle.c_grammar.specs.Rules.{read}
use Rattle.c_parser.proofs.external.program.Given as goal

-- what is read so far and the rest make the whole
abbrev pub invariant-externals : goal.invariant-externals
invariant-externals l = read limit (phrase.program (map outer_of l.found)) (lexemes l.rest) ≡ read limit (phrase.program []) (lexemes l.fn.tokens)

abbrev pub decreases-externals : goal.decreases-externals
decreases-externals l = length l.rest
