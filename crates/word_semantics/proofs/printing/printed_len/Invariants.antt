use Rattle.std.proofs.Common.{◌≡◌, ◌≤◌, ◌+◌, ◌*◌, length}
use Rattle.word_semantics.specs.Registers.{words_of}
use Rattle.word_semantics.proofs.Printed.{still_printed}
use Rattle.word_semantics.proofs.printing.printed_len.Given as goal

abbrev pub invariant-loop-piece : goal.invariant-loop-piece
invariant-loop-piece l = record {
  sum : l.len + length (still_printed l.format (words_of l.registers l.arguments) l.piece-index l.next) ≡ length (still_printed l.format (words_of l.registers l.arguments) 0 0);
  short : l.len ≤ 40 * l.piece-index;
  next : l.next ≤ l.piece-index;
}
