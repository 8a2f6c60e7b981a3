use Rattle.std.proofs.Common.{◌≡◌, map, length}
use Rattle.c_tree.specs.View.{fields_of}
use Rattle.c_parse_rules.specs.Gives.{limit, lexemes}
use Rattle.c_grammar.specs.Phrase as phrase
use Rattle.c_grammar.specs.Rules.{read}
use Rattle.c_parser.proofs.external.more_members.Given as goal

-- what is read so far and the rest make the whole
abbrev pub invariant-members : goal.invariant-members
invariant-members l = read limit (phrase.more_members (map fields_of l.found)) (lexemes l.rest) ≡ read limit (phrase.more_members (map fields_of l.fn.found)) (lexemes l.fn.tokens)

abbrev pub decreases-members : goal.decreases-members
decreases-members l = length l.rest
