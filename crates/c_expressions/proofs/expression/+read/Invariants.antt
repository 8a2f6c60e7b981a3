use Rattle.std.proofs.Common.{◌≡◌, ◌+◌, ◌*◌, ◌-◌, map, length}
use Rattle.c_tree.specs.View.{exp_of}
use Rattle.c_parse_rules.specs.Gives.{limit, lexemes}
use Rattle.c_grammar.specs.Phrase as phrase
use Rattle.c_grammar.specs.Rules.{read}
use Rattle.c_expressions.proofs.expression.+read.Given as goal

abbrev pub decreases-postfix : goal.decreases-postfix
decreases-postfix l = 10 * (258 - l.level)

abbrev pub decreases-atom : goal.decreases-atom
decreases-atom l = 10 * (258 - l.level)

abbrev pub decreases-chain : goal.decreases-chain
decreases-chain l = 10 * (258 - l.level)

abbrev pub decreases-enclosed : goal.decreases-enclosed
decreases-enclosed l = 10 * (258 - l.level) + 1

abbrev pub decreases-opened : goal.decreases-opened
decreases-opened l = 10 * (258 - l.level) + 2

abbrev pub decreases-unary_plain : goal.decreases-unary_plain
decreases-unary_plain l = 10 * (258 - l.level) + 2

abbrev pub decreases-unary : goal.decreases-unary
decreases-unary l = 10 * (258 - l.level) + 3

abbrev pub decreases-operands : goal.decreases-operands
decreases-operands l = 10 * (258 - l.level) + 4

abbrev pub decreases-conditional : goal.decreases-conditional
decreases-conditional l = 10 * (258 - l.level) + 5

abbrev pub decreases-assignment : goal.decreases-assignment
decreases-assignment l = 10 * (258 - l.level) + 6

abbrev pub decreases-more : goal.decreases-more
decreases-more l = 10 * (258 - l.level) + 7

abbrev pub decreases-arguments : goal.decreases-arguments
decreases-arguments l = 10 * (258 - l.level) + 8

abbrev pub decreases-expression : goal.decreases-expression
decreases-expression l = 10 * (258 - l.level) + 8

abbrev pub decreases-sizeof : goal.decreases-sizeof
decreases-sizeof l = 10 * (258 - l.level)

-- what is read so far and the rest make the whole
abbrev pub invariant-more-loop-found : goal.invariant-more-loop-found
invariant-more-loop-found l = read limit (phrase.more l.level (map exp_of l.found)) (lexemes l.rest) ≡ read limit (phrase.more l.fn.level (map exp_of l.fn.found)) (lexemes l.fn.tokens)

abbrev pub decreases-more-loop-found : goal.decreases-more-loop-found
decreases-more-loop-found l = length l.rest
