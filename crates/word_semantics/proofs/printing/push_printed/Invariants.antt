use Rattle.std.proofs.Common.{◌≡◌, ◌≤◌, ◌++◌}
use Rattle.word_semantics.specs.Registers.{words_of}
use Rattle.word_semantics.proofs.Printed.{still_printed}
use Rattle.word_semantics.proofs.printing.push_printed.Given as goal

abbrev pub invariant-loop-piece : goal.invariant-loop-piece
invariant-loop-piece l = record {
  text : l.out ++ still_printed l.format (words_of l.registers l.arguments) l.piece-index l.next ≡ l.fn.out ++ still_printed l.format (words_of l.registers l.arguments) 0 0;
  next : l.next ≤ l.piece-index;
}
