use Rattle.std.proofs.Common.{◌≡◌, ◌≤◌, ◌+◌, drop}
use Rattle.c_lexer.specs.Tokens.{after}
use Rattle.c_lexer.proofs.lex.pass.Given as goal

abbrev pub invariant-loop-b : goal.invariant-loop-b
invariant-loop-b l = record {
  rest : after (drop l.b-index l.text) l.cursor ≡ after l.text l.fn.cursor;
  offset : l.cursor.offset ≡ l.fn.cursor.offset + l.b-index;
  line : l.cursor.at.line ≤ l.fn.cursor.at.line + l.b-index;
  column : l.cursor.at.column ≤ l.fn.cursor.at.column + l.b-index;
  first : 1 ≤ l.cursor.at.column;
}
