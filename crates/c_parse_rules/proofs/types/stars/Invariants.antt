use Rattle.std.proofs.Common.{◌≡◌, ◌≤◌, ◌+◌, length}
use Rattle.c_parse_rules.specs.Gives.{limit, lexemes}
use Rattle.c_grammar.specs.Phrase as phrase
use Rattle.c_grammar.specs.Rules.{read}
use Rattle.c_parse_rules.proofs.types.stars.Given as goal

-- the stars so far and those of the rest are all
abbrev pub invariant-loop-following : goal.invariant-loop-following
invariant-loop-following l = record {
  read : read limit (phrase.stars l.level l.count) (lexemes l.rest) ≡ read limit (phrase.stars l.level 0) (lexemes l.tokens);
  count : l.count + length l.rest ≤ length l.tokens;
}

abbrev pub decreases-loop-following : goal.decreases-loop-following
decreases-loop-following l = length l.rest
