use Rattle.std.proofs.Common.{arith}
use Rattle.word_semantics.proofs.Printed.{length_step}
use Rattle.word_semantics.proofs.printing.printed_len.Goals as goal

pub loop-piece-preserved : goal.loop-piece-preserved
loop-piece-preserved c = record {
  sum = length_step _ _ c.loop-piece.piece-index c.loop-piece.next c.next_argument-next.result _ c.word_at.result _ _ _ c.loop-piece-test.true c.word_at.ensures c.next_argument-next.ensures c.text_len.ensures.value c.loop-piece.invariant.sum;
  short = omega (arith, c.text_len.ensures.short);
  next = grind (arith, c.next_argument-next.ensures);
}
