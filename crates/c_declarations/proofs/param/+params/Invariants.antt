use Rattle.std.proofs.Common.{◌≡◌, ◌+◌, ◌*◌, ◌-◌, map, length}
use Rattle.c_tree.specs.View.{formal_of}
use Rattle.c_parse_rules.specs.Gives.{limit, lexemes}
use Rattle.c_grammar.specs.Phrase as phrase
use Rattle.c_grammar.specs.Rules.{read}
use Rattle.c_declarations.proofs.param.+params.Given as goal

abbrev pub decreases-params : goal.decreases-params
decreases-params l = 5 * (257 - l.level) + 4

abbrev pub decreases-more_params : goal.decreases-more_params
decreases-more_params l = 5 * (257 - l.level) + 3

abbrev pub decreases-param : goal.decreases-param
decreases-param l = 5 * (257 - l.level) + 2

abbrev pub decreases-param_after : goal.decreases-param_after
decreases-param_after l = 5 * (257 - l.level) + 1

abbrev pub decreases-pointer : goal.decreases-pointer
decreases-pointer l = 5 * (257 - l.level)

-- what is read so far and the rest make the whole
abbrev pub invariant-more_params-params : goal.invariant-more_params-params
invariant-more_params-params l = read limit (phrase.more_params l.level (map formal_of l.found)) (lexemes l.rest) ≡ read limit (phrase.more_params l.fn.level (map formal_of l.fn.found)) (lexemes l.fn.tokens)

abbrev pub decreases-more_params-params : goal.decreases-more_params-params
decreases-more_params-params l = length l.rest
