use Rattle.std.proofs.Common.{◌≡◌, ◌+◌, ◌*◌, ◌-◌, map, length}
use Rattle.c_tree.specs.View.{init_of}
use Rattle.c_parse_rules.specs.Gives.{limit, lexemes}
use Rattle.c_grammar.specs.Phrase as phrase
use Rattle.c_grammar.specs.Rules.{read}
use Rattle.c_declarations.proofs.declaration.+initials.Given as goal

abbrev pub decreases-initial : goal.decreases-initial
decreases-initial l = 4 * (257 - l.level)

abbrev pub decreases-braces : goal.decreases-braces
decreases-braces l = 4 * (257 - l.level) + 2

abbrev pub decreases-more_initials : goal.decreases-more_initials
decreases-more_initials l = 4 * (257 - l.level) + 1

-- what is read so far and the rest make the whole
abbrev pub invariant-more_initials-loop-found : goal.invariant-more_initials-loop-found
invariant-more_initials-loop-found l = read limit (phrase.more_initials l.level (map init_of l.found)) (lexemes l.rest) ≡ read limit (phrase.more_initials l.fn.level (map init_of l.fn.found)) (lexemes l.fn.tokens)

abbrev pub decreases-more_initials-loop-found : goal.decreases-more_initials-loop-found
decreases-more_initials-loop-found l = length l.rest
