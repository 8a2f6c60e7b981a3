use Rattle.std.proofs.Common.{arith}
use Rattle.word_semantics.proofs.Printed.{text_step}
use Rattle.word_semantics.proofs.printing.push_printed.Goals as goal

pub loop-piece-preserved : goal.loop-piece-preserved
loop-piece-preserved c = record {
  text = text_step _ _ c.loop-piece.piece-index c.loop-piece.next c.next_argument-next.result _ c.word_at.result _ _ _ c.loop-piece-test.true c.word_at.ensures c.next_argument-next.ensures c.in_ok-push_text.ensures c.loop-piece.invariant.text;
  next = grind (arith, c.next_argument-next.ensures);
}
