use Rattle.std.proofs.Common.{◌≡◌, map, length}
use Rattle.c_tree.specs.View.{object_of}
use Rattle.c_parse_rules.specs.Gives.{limit, lexemes}
use Rattle.c_grammar.specs.Phrase as phrase
use Rattle.c_grammar.specs.Rules.{read}
use Rattle.c_declarations.proofs.declaration.more_objects.Given as goal

-- what is read so far and the rest make the whole
abbrev pub invariant-loop-found : goal.invariant-loop-found
invariant-loop-found l = read limit (phrase.more_objects l.level (map object_of l.found)) (lexemes l.rest) ≡ read limit (phrase.more_objects l.fn.level (map object_of l.fn.found)) (lexemes l.fn.tokens)

abbrev pub decreases-loop-found : goal.decreases-loop-found
decreases-loop-found l = length l.rest
