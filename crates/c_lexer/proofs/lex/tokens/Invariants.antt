use Rattle.std.proofs.Common.{◌≡◌, ◌≤◌, ◌+◌, length}
use Rattle.std.specs.Prelude.{All}
use Rattle.c_lexer.specs.Spans.{AreInOrder, IsPlaced}
use Rattle.c_lexer.specs.Tokens.{tokens_from, tokens_of}
use Rattle.c_lexer.proofs.Steps.{with_front}
use Rattle.c_lexer.proofs.lex.tokens.Given as goal

-- the tokens so far and those of the rest are those of the text
abbrev pub invariant-loop-rest : goal.invariant-loop-rest
invariant-loop-rest l = record {
  tokens : with_front l.found (tokens_from 0 (record { cursor = l.cursor; token_line = l.token_line; defined = l.names }) l.rest) ≡ tokens_of l.text;
  offset : l.cursor.offset + length l.rest ≡ length l.text;
  line : l.cursor.at.line ≤ 1 + l.cursor.offset;
  column : l.cursor.at.column ≤ 1 + l.cursor.offset;
  first : 1 ≤ l.cursor.at.column;
  order : AreInOrder 0 l.cursor.offset l.found;
  placed : All IsPlaced l.found;
}

abbrev pub decreases-loop-rest : goal.decreases-loop-rest
decreases-loop-rest l = length l.rest
