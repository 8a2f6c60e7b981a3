use Rattle.std.proofs.Common.{◌≡◌, ◌+◌, ◌*◌, ◌-◌, [], map, length}
use Rattle.c_tree.specs.View.{part_of}
use Rattle.c_parse_rules.specs.Gives.{limit, lexemes}
use Rattle.c_grammar.specs.Phrase as phrase
use Rattle.c_grammar.specs.Rules.{read}
use Rattle.c_parser.proofs.statement.+statements.Given as goal

abbrev pub decreases-statement : goal.decreases-statement
decreases-statement l = 10 * (257 - l.level)

abbrev pub decreases-boxed : goal.decreases-boxed
decreases-boxed l = 10 * (257 - l.level) + 1

abbrev pub decreases-control : goal.decreases-control
decreases-control l = 10 * (257 - l.level) + 8

abbrev pub decreases-block : goal.decreases-block
decreases-block l = 10 * (257 - l.level) + 7

abbrev pub decreases-branch : goal.decreases-branch
decreases-branch l = 10 * (257 - l.level) + 7

abbrev pub decreases-otherwise : goal.decreases-otherwise
decreases-otherwise l = 10 * (257 - l.level) + 6

abbrev pub decreases-while_loop : goal.decreases-while_loop
decreases-while_loop l = 10 * (257 - l.level) + 6

abbrev pub decreases-do_loop : goal.decreases-do_loop
decreases-do_loop l = 10 * (257 - l.level) + 6

abbrev pub decreases-for_loop : goal.decreases-for_loop
decreases-for_loop l = 10 * (257 - l.level) + 6

abbrev pub decreases-parts : goal.decreases-parts
decreases-parts l = 10 * (257 - l.level) + 6

abbrev pub decreases-part : goal.decreases-part
decreases-part l = 10 * (257 - l.level) + 5

-- what is read so far and the rest make the whole
abbrev pub invariant-parts-parts : goal.invariant-parts-parts
invariant-parts-parts l = read limit (phrase.parts l.level (map part_of l.found)) (lexemes l.rest) ≡ read limit (phrase.parts l.fn.level []) (lexemes l.fn.tokens)

abbrev pub decreases-parts-parts : goal.decreases-parts-parts
decreases-parts-parts l = length l.rest
